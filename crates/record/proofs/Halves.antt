-- Which records, as two numbers, pass: a law for each kind. Assumes nothing.
use mathlib.Core.Path.{◌≡◌, sym, ◌∙◌, ap}
use mathlib.Core.Bool.{true, not}
use Prim.Native.Nat.{ℕ, ◌/◌, ◌%◌, ◌<◌}
use native.Mathlib.Omega.{arith}
use lib.Dec.{eqb}
use borrow.Author.Tests.{lt-ltb, eq-eqb, ne_eqb, eqb-true, eqb-false}
use Rattle.scope.specs.Table.{order_ok}
use Rattle.scope.proofs.Tests.{by_test}
use Rattle.record.specs.Halves.{halves_node, Passes}
use Rattle.record.proofs.Cases.{form_three, form-two, form-atom, form-true, range_true, range_atom, range-two, range-c, order_leaf, order_imp, order-two, order-bc}

module _ (low high n : ℕ) where
  -- TRUE
  pub passes_true : low ≡ 1 → high ≡ 0 → Passes low high n
  passes_true l h = record {
    form =
        sym (form-true (halves_node low high) (omega arith) (omega arith) (omega arith) (omega arith) (λ e. omega arith) (omega arith))
        ∙ eq-eqb (low % 256) 1 (omega arith);
    range = sym (range_true (halves_node low high) n (omega arith));
    order = sym (order_leaf (halves_node low high) (omega arith));
  }

  -- ATOM
  pub passes_atom : low % 65536 ≡ 2 → low < 67108864 → high ≡ 0 → Passes low high n
  passes_atom k l h = record {
    form = sym (form-atom (halves_node low high) (omega arith) (omega arith) (omega arith) (omega arith));
    range = sym (range_atom (halves_node low high) n (omega arith)) ∙ lt-ltb (low / 65536) 1024 (omega arith);
    order = sym (order_leaf (halves_node low high) (omega arith));
  }

  -- kinds 3 to 6: the operands rise, or it is an implication
  module _ (k : 2 < low % 65536) (m : low % 65536 < 7) (f : n < 32768) where
    passes-two : low / 131072 < n → high / 2 < n → order_ok (halves_node low high) ≡ true → Passes low high n
    passes-two a b o = record {
      form = sym (form-two (halves_node low high) (omega arith) (omega arith) (omega arith) (omega arith));
      range = sym (range-two (halves_node low high) n (omega arith) (λ e. omega arith) (omega arith) (omega arith) (omega arith));
      order = o;
    }

    imp-order : low % 256 ≡ 5 → (low / 131072 ≡ high % 65536 / 2 → ⊥) → order_ok (halves_node low high) ≡ true
    imp-order e d =
        sym (order_imp (halves_node low high) e)
        ∙ ap not (ne_eqb (low / 65536 / 2) (high % 65536 / 2) (λ q. d (omega arith)))

    pub passes-rising : low / 131072 < high / 2 → high / 2 < n → Passes low high n
    passes-rising a b =
        passes-two (omega arith) b
        (by_test (eqb (low % 256) 5)
        (λ e. imp-order (eqb-true (low % 256) 5 e) (λ q. omega arith))
        (λ e. sym (order-two (halves_node low high) (omega arith) (eqb-false (low % 256) 5 e) (omega arith))
        ∙ lt-ltb (low / 65536 / 2) (high % 65536 / 2) (omega arith)))

    pub passes-falling : low % 65536 ≡ 5 → high / 2 < low / 131072 → low / 131072 < n → Passes low high n
    passes-falling e a b = passes-two b (omega arith) (imp-order (omega arith) (λ q. omega arith))

  -- kinds 7 and 8
  pub passes_three : 6 < low % 65536 → low % 65536 < 9 → low / 131072 < high % 65536 / 2 → high % 65536 / 2 < high / 131072 → high / 131072 < n
      → Passes low high n
  passes_three k m a b c = record {
    form = sym (form_three (halves_node low high) (omega arith) (omega arith)) ∙ lt-ltb (low % 256) 9 (omega arith);
    range =
        sym (range-c (halves_node low high) n (omega arith) (λ e. omega arith) (omega arith) (omega arith) (omega arith))
        ∙ lt-ltb (high / 65536 / 2) n (omega arith);
    order =
        sym (order-bc (halves_node low high) (omega arith) (λ e. omega arith) (omega arith) (omega arith))
        ∙ lt-ltb (high % 65536 / 2) (high / 65536 / 2) (omega arith);
  }
