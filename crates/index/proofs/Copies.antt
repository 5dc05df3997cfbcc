-- Laws of the codes and classes, each written as a part of the index. Assumes nothing.
use mathlib.Core.Path.{◌≡◌, sym, ap, ◌∙◌}
use mathlib.Core.List.{List}
use Prim.Native.Nat.{ℕ, ◌+◌, ◌≤◌, ◌<◌}
use native.Mathlib.Omega.{arith}
use native.Mathlib.Nat.{zero-add}
use lib.ListN.{length, get_or}
use borrow.Author.Rules.{rules}
use borrow.Rule.Slice.PartMut.{put_mid}
use Rattle.std.proofs.lemmas.List.{places}
use Rattle.scope.proofs.Lists.{length_list_from, get_d_list_from}
use Rattle.index.specs.Codes.{codes_size, code_at, codes, classes_size, class_at, classes}
use Rattle.index.specs.Index.{index_size, codes_at, classes_at}
use Rattle.index.specs.Built.{Same, Copied, Classified}

-- numbers are written to a part of x
module _ (a k : ℕ) (x ys : List ℕ) (e : length ys ≡ k) (h : a + k ≤ length x) where
  put-size : length (put_mid a k x ys) ≡ length x
  put-size = search (rules, places)

  put-before : Same a x (put_mid a k x ys)
  put-before i b = grind (arith, places)

  put-here : (i : ℕ) → i < k → get_or (put_mid a k x ys) (a + i) 0 ≡ get_or ys i 0
  put-here i b = grind (arith, places)

pub copied : (x ys : List ℕ) → length x ≡ index_size → ys ≡ codes → Copied codes_size x (put_mid codes_at codes_size x ys)
copied x ys z e =
    let n : length ys ≡ codes_size = ap length e ∙ length_list_from code_at codes_size 0 in
    let room : codes_at + codes_size ≤ length x = omega arith in
    record {
      size = put-size codes_at codes_size x ys n room ∙ z;
      before = put-before codes_at codes_size x ys n room;
      codes = λ i h. put-here codes_at codes_size x ys n room i h ∙ ap (λ (c : List ℕ). get_or c i 0) e ∙ get_d_list_from code_at codes_size 0 i 0 h
          ∙ ap code_at (zero-add i);
    }

pub classified : (x ys : List ℕ) (k : ℕ) → length x ≡ index_size → ys ≡ classes → k ≡ classes_size → Classified classes_size x (put_mid classes_at k x ys)
classified x ys k z e q =
    let n : length ys ≡ k = ap length e ∙ length_list_from class_at classes_size 0 ∙ sym q in
    let room : classes_at + k ≤ length x = omega arith in
    record {
      size = put-size classes_at k x ys n room ∙ z;
      before = put-before classes_at k x ys n room;
      classes = λ i h. put-here classes_at k x ys n room i (omega (arith, h, q)) ∙ ap (λ (c : List ℕ). get_or c i 0) e
          ∙ get_d_list_from class_at classes_size 0 i 0 h ∙ ap class_at (zero-add i);
    }
