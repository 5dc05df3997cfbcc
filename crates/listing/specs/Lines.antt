-- What the listing program's functions leave: the word of an answer, a node's line, the lines of all nodes. Assumes nothing.
use Rattle.std.specs.Prelude.{◌≡◌, List, [], ◌∷◌, ◌++◌, ℕ, ◌+◌, ◌*◌, ◌<◌, ◌≤◌, length}
use Rattle.scope.specs.declared.Node.{Node}
use Rattle.calculus.specs.Expansion.{expand}
use Rattle.calculus.specs.Order.{tree, answer_of}
use Rattle.calculus.specs.Decide.{search_of}
use Rattle.index.specs.Index.{index_node}
use Rattle.searching.specs.declared.Found.{Found}
use Rattle.searching.specs.declared.Found.TheVariants.{Model, Closed}
use Rattle.text.specs.Text.{ascii, decimal, Put}
use Rattle.text.specs.Listing.{answer_word, node_line, node_lines}

-- the word of what a search finds
abbrev pub found_word : Found → List ℕ
found_word Model = ascii "possible"
found_word Closed = ascii "impossible"

-- over an index of n nodes a goal by itself is answered as over the nodes rs
pub record Same (x : List ℕ) (n : ℕ) (rs : List Node) : Type 0 where
  pub each : (goal : ℕ) → goal < 2 * n → answer_of (tree (expand (index_node x)) (goal ∷ []) n []) ≡ answer_of (search_of rs (goal ∷ []))

-- a goal has its answer's word
pub record Judged (x : List ℕ) (n goal : ℕ) (r : Found) : Type 0 where
  pub word : (rs : List Node) → Same x n rs → goal < 2 * n → found_word r ≡ answer_word rs goal

-- a word is short
pub record Worded (out : List ℕ) (at : ℕ) (s out' : List ℕ) (end : ℕ) : Type 0 where
  pub put : Put out at s out' end
  pub most : end ≤ at + 10

-- the most bytes of a node's line, by twenty digits and two words
abbrev pub most_line : ℕ
most_line = 43

-- a line of a number and two words
pub record LineOf (m : ℕ) (yes no : Found) (out : List ℕ) (at : ℕ) (out' : List ℕ) (end : ℕ) : Type 0 where
  pub text : Put out at (decimal m ++ (ascii " " ++ (found_word yes ++ (ascii " " ++ (found_word no ++ ascii "\n"))))) out' end
  pub least : at ≤ end
  pub most : end ≤ at + most_line

-- the line of node m
pub record Lined (x : List ℕ) (n : ℕ) (out : List ℕ) (at m : ℕ) (out' : List ℕ) (end : ℕ) : Type 0 where
  pub text : (rs : List Node) → Same x n rs → Put out at (node_line rs m) out' end
  pub least : at ≤ end
  pub most : end ≤ at + most_line
  pub size : length out' ≡ length out

-- the lines of all nodes
pub record AllLined (x out : List ℕ) (at nodes : ℕ) (out' : List ℕ) (end : ℕ) : Type 0 where
  pub text : (rs : List Node) → Same x nodes rs → Put out at (node_lines rs nodes) out' end
  pub size : length out' ≡ length out
