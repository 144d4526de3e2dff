-- What a loop knows that takes units (`Took`), for any code. Assumes nothing.
use Prim.Native.Nat.{ℕ, ◌+◌, ◌-◌, ◌≤◌, ◌<◌}
use mathlib.Core.Path.{◌≡◌, refl, sym, ap, ◌∙◌}
use mathlib.Core.List.{List, [], ◌++◌}
use native.Mathlib.Omega.{arith}
use lib.ListN.{length, get_or, length-append}
use lib.Seq.{sets, length-sets}
use borrow.Author.Tests.{lt-ltb}
use Rattle.meaning.specs.Answer.{given}
use Rattle.meaning.specs.Codes.{Code}
use Rattle.meaning.specs.DataBytes.{byte_length}
use Rattle.meaning.specs.Places.{Spare, Took, Ends}
use Rattle.meaning.specs.Units.{Stretch, none, more}
use Rattle.meaning.specs.declared.Position.{Position}
use Rattle.meaning.specs.declared.Taken.{Taken}
use Rattle.meaning.proofs.Codes.{length_some}
use Rattle.meaning.proofs.Stores.{sets-append}
use Rattle.meaning.proofs.Tests.{by_order}

module _ (c : Code) (body : List ℕ) (left : ℕ) (p : Position) (w₀ : List ℕ) (from : ℕ) where
  -- i numbers of so many units stand in work, the last unit left so many bytes spare, and the next unit is at q. The code keeps only what it uses of a
  -- position: `to` has 0 for the rest, and is read as q is
  pub record Takes (w : List ℕ) (i units spare : ℕ) (to : Position) : Type 0 where
    pub numbers : List ℕ
    pub last : List ℕ
    pub q : Position
    pub are : Stretch (c.unit body) c.joins left p numbers units last q
    pub counted : length numbers ≡ i
    pub here : w ≡ sets w₀ from numbers
    pub leaves : Spare c.joins last spare
    pub alike : (k : ℕ) → c.unit body k q ≡ c.unit body k to
    pub stays : i ≡ 0 → q ≡ p
    pub goes : 0 < i → q ≡ to

  pub takes-start : (to : Position) → Spare c.joins [] 0 → ((k : ℕ) → c.unit body k p ≡ c.unit body k to) → Takes w₀ 0 0 0 to
  takes-start to fresh e =
      record {
        numbers = [];
        last = [];
        q = p;
        are = none;
        counted = refl;
        here = refl;
        leaves = fresh;
        alike = e;
        stays = λ z. refl;
        goes = λ h. absurd
            (omega arith);
      }

  module _ (w : List ℕ) (i units spare : ℕ) (to : Position) (t : Takes w i units spare to) where
    -- one unit more
    pub takes-turn : (u : Position × List ℕ) (w' : List ℕ) (spare' : ℕ) → i < left → c.unit body (left - i) to ≡ given u → 0 < length u.1
        → spare < byte_length (get_or u.1 0 0) → Spare c.joins u.1 spare' → w' ≡ sets w (from + i) u.1 → Takes w' (i + length u.1)
        (units + 1) spare' u.0
    takes-turn u w' spare' h e some joins leaves ew =
        let k = t.counted in
        record {
          numbers = t.numbers ++ u.1;
          last = u.1;
          q = u.0;
          are = more t.are (omega arith) u (rw k (t.alike (left - i) ∙ e)) (t.leaves u.1 ∙ lt-ltb _ _ joins);
          counted = length-append t.numbers u.1 ∙ ap (λ (k : ℕ). k + length u.1) k;
          here = ew ∙ rw (← k, t.here) (sets-append t.numbers u.1 w₀ from);
          leaves = leaves;
          alike = λ k. refl;
          stays = λ z. absurd (omega arith);
          goes = λ z. refl;
        }

    -- the same where nothing is ever left spare
    pub takes-next : spare ≡ 0 → (u : Position × List ℕ) (w' : List ℕ) → i < left → c.unit body (left - i) to ≡ given u → 0 < length u.1
        → Spare c.joins u.1 0 → w' ≡ sets w (from + i) u.1 → Takes w' (i + length u.1) (units + 1) 0 u.0
    takes-next z u w' h e some leaves ew = takes-turn u w' 0 h e some (rw z (length_some (get_or u.1 0 0))) leaves ew

    pub takes-long : length w ≡ length w₀
    takes-long = ap length t.here ∙ length-sets w₀ from t.numbers

    pub takes-end : (room : ℕ) (r : Taken) → i ≤ room → Ends p i units spare to r → Took c body left p room from w₀ w r
    takes-end room r h e =
        let is : t.q ≡ r.next = by_order 0 i (λ b. t.goes b ∙ sym (e.goes b)) (λ b. t.stays (omega arith) ∙ sym (e.stays (omega arith))) in
        record {
          numbers = t.numbers;
          last = t.last;
          are = rw (e.passed, ← is) t.are;
          counted = t.counted ∙ sym e.counted;
          few = rw e.counted h;
          here = t.here;
          leaves = rw e.leaves t.leaves;
        }

-- nothing is taken
pub took-none : (c : Code) (body : List ℕ) (left : ℕ) (p : Position) (room from : ℕ) (w : List ℕ) → Spare c.joins [] 0 → (r : Taken) → Ends p 0 0 0 p r
    → Took c body left p room from w w r
took-none c body left p room from w fresh r e =
    takes-end c body left p w from w 0 0 0 p (takes-start c body left p w from p fresh (λ k. refl)) room r (omega arith) e
