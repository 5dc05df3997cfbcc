-- What check accepts, derive's bytes among it, is a derivation of the published calculus. Assumes nothing.
use mathlib.Core.Path.{◌≡◌}
use mathlib.Core.List.{List}
use Prim.Native.Nat.{ℕ}
use lib.ListN.{length}
use Rattle.scope.specs.Outcome.{fine}
use Rattle.scope.proofs.Tests.{bound}
use Rattle.calculus.specs.Expansion.{expand}
use Rattle.calculus.specs.Decide.{nodes_of, asked}
use Rattle.calculus.proofs.Asked.{asked-read}
use Rattle.rules.specs.Steps.{version_of, decode_steps}
use Rattle.rules.specs.Derive.{checked, check}
use Rattle.published.specs.Bytes.{PublishedBytes}
use Rattle.published.proofs.Versions.{accepted_derives}

pub check_derives : (t goals work d : List ℕ) → check t goals work d ≡ fine → PublishedBytes t goals d
unfolding check checked
check_derives t goals work d e =
    let x = bound (asked t goals 0 0 (length work)) _ e in
    let z = bound (decode_steps d) _ x.2 in
    record {
      nodes = x.0;
      steps = z.0;
      table = (asked-read t goals 0 0 (length work) x.1).0;
      read = z.1;
      derivation = accepted_derives (expand (nodes_of x.0)) goals (length x.0) (version_of d) z.0 z.2;
    }
