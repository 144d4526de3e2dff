-- One possible answer: two answers and outputs that meet the contract of `write` or of `write_two` are equal. Assumes nothing.
use Prim.Native.Nat.{ℕ}
use mathlib.Core.Path.{◌≡◌, sym, ◌∙◌}
use mathlib.Core.List.{List, [], ◌∷◌, map}
use Rattle.std.specs.Prelude.{Result}
use Rattle.meaning.specs.Promises.{Writes}
use Rattle.meaning.specs.declared.Refusal.{Refusal}
use Rattle.meaning.proofs.Same.{says-same}
use Rattle.orders.specs.Orders.{order_says}
use Rattle.orders.specs.declared.Order.{Order}

pub one-write : (edition : ℕ) (orders : List Order) (numbers work o o' o'' : List ℕ) (r r' : Result ℕ Refusal)
    → Writes edition (map order_says orders) numbers work o (r, o')
    → Writes edition (map order_says orders) numbers work o (r', o'')
    → (r ≡ r') × (o' ≡ o'')
one-write edition orders numbers work o o' o'' r r' e f = (says-same r r' (e.0 ∙ sym f.0), e.1 ∙ sym f.1)

pub one-write-two : (edition : ℕ) (a b : Order) (numbers work o o' o'' : List ℕ) (r r' : Result ℕ Refusal)
    → Writes edition (map order_says (a ∷ b ∷ [])) numbers work o (r, o')
    → Writes edition (map order_says (a ∷ b ∷ [])) numbers work o (r', o'')
    → (r ≡ r') × (o' ≡ o'')
one-write-two edition a b = one-write edition (a ∷ b ∷ [])
