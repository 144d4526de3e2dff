-- One group of any grouping, by its control bytes and its data, wherever they stand: a written group reads as its numbers, what reads as numbers is
-- their group, and bytes added behind a body change none that is not cut short. Assumes nothing.
use Prim.Native.Nat.{ℕ, ◌+◌, ◌/◌, ◌^◌, ◌≤◌}
use mathlib.Core.Path.{◌≡◌, refl, sym, ap, ap₂, ◌∙◌, subst}
use mathlib.Core.List.{List, ◌++◌, map}
use native.Mathlib.Omega.{arith}
use lib.Dec.{leb, eqb}
use lib.ListN.{length, take, drop, length-append, length-drop, take-append-drop}
use lib.Seq.{drop-drop, length-take-le, take-append-le}
use borrow.Author.Tests.{le-leb, eq-eqb, leb-true, eqb-true}
use Rattle.meaning.specs.Answer.{given}
use Rattle.meaning.specs.Bytes.{number_of}
use Rattle.meaning.specs.DataBytes.{byte_length, data_bytes, data_in}
use Rattle.meaning.specs.Groups.{Grouping, group_count, control_of, lengths_in, control, controls, group_in, group_from, group_at}
use Rattle.meaning.specs.Limits.{cut_short, broken, number_limit}
use Rattle.meaning.specs.Lists.{sum}
use Rattle.meaning.specs.Places.{Below, part}
use Rattle.meaning.proofs.Answers.{bind-given, need-given}
use Rattle.meaning.proofs.Bounds.{below-drop, below-take}
use Rattle.meaning.proofs.Lasting.{Lasts, lasts-given, lasts-long, lasts-rule, lasts_as, lasts-bind, drop-longer}
use Rattle.words.proofs.DataBytes.{data-length, data-many, data-written, data-back, data-lasts}
use Rattle.groups.proofs.Controls.{Fields, control-in, control-none, lengths-control, lengths-many}
use Rattle.groups.proofs.Pieces.{controls-number, controls-back}

module _ {g : Grouping} (by : Fields g) where
  -- ---- written
  pub group-written : (xs rest : List ℕ) → Below number_limit xs → group_in g (length xs) (control g xs) (data_bytes xs ++ rest) ≡ given xs
  unfolding group_in
  group-written xs rest small =
      let there : sum (map byte_length xs) ≤ length (data_bytes xs ++ rest) = simp length-append (omega (arith, data-length xs)) in
      rw (control-in by xs, le-leb _ _ there, eq-eqb _ 0 (control-none by xs)) (data-written xs rest small)

  pub written_at : (body xs rest : List ℕ) (at from : ℕ) → group_count (length xs) ≤ length (drop at body)
      → part body at (group_count (length xs)) ≡ controls g xs → drop from body ≡ data_bytes xs ++ rest → Below number_limit xs
      → group_at g body (length xs) at from ≡ given (from + length (data_bytes xs), xs)
  unfolding group_at group_from
  written_at body xs rest at from there bytes is small =
      rw (le-leb _ _ there, bytes, controls-number g xs, is, group-written xs rest small, control-in by xs, data-length xs)

-- ---- read
-- a group passed its tests: the data is there, unused fields are 0, and these are the data's numbers
record Passed (g : Grouping) (k c : ℕ) (bytes xs : List ℕ) : Type 0 where
  pub there : sum (lengths_in g k c) ≤ length bytes
  pub unused : c / 4 ^ k ≡ 0
  pub numbers : data_in (lengths_in g k c) bytes ≡ given xs

passed : (g : Grouping) (k c : ℕ) (bytes xs : List ℕ) → group_in g k c bytes ≡ given xs → Passed g k c bytes xs
unfolding group_in
passed g k c bytes xs e =
    let (t, e₁) = need-given (leb (sum (lengths_in g k c)) (length bytes)) cut_short _ xs e in
    let (u, e₂) = need-given (eqb (c / 4 ^ k) 0) broken _ xs e₁ in
    record { there = leb-true _ _ t; unused = eqb-true _ _ u; numbers = e₂ }

pub group-many : (g : Grouping) (k c : ℕ) (bytes xs : List ℕ) → group_in g k c bytes ≡ given xs → length xs ≡ k
group-many g k c bytes xs e = data-many (lengths_in g k c) bytes xs (passed g k c bytes xs e).numbers ∙ lengths-many g k c

-- what reads as xs is their group
pub record GroupIs (g : Grouping) (k c : ℕ) (bytes xs : List ℕ) : Type 0 where
  pub many : length xs ≡ k
  pub fields : control g xs ≡ c
  pub size : length (data_bytes xs) ≡ sum (lengths_in g k c)
  pub inside : length (data_bytes xs) ≤ length bytes
  pub is : bytes ≡ data_bytes xs ++ drop (length (data_bytes xs)) bytes
  pub small : Below number_limit xs

pub group-back : {g : Grouping} → Fields g → (k c : ℕ) (bytes xs : List ℕ) → Below 256 bytes → group_in g k c bytes ≡ given xs → GroupIs g k c bytes xs
unfolding control
group-back {g} by k c bytes xs low e =
    let p = passed g k c bytes xs e in
    let f = data-back (lengths_in g k c) bytes xs low p.there p.numbers in
    let n : length (data_bytes xs) ≡ sum (lengths_in g k c) = data-length xs ∙ ap sum f.lengths in
    record {
      many = group-many g k c bytes xs e;
      fields = ap (control_of g) f.lengths ∙ lengths-control by k c p.unused;
      size = n;
      inside = omega (arith, p.there);
      is = sym (take-append-drop (sum (lengths_in g k c)) bytes) ∙ ap₂ (λ (l : List ℕ) (m : ℕ). l ++ drop m bytes) f.is (sym n);
      small = f.small;
    }

-- ---- at offsets of a body
-- the group that was read, and that its control bytes are there
record Stands (g : Grouping) (body : List ℕ) (k at from : ℕ) (t : ℕ × List ℕ) : Type 0 where
  pub there : group_count k ≤ length (drop at body)
  pub group : group_in g k (number_of (part body at (group_count k))) (drop from body) ≡ given t.1
  pub ends : t.0 ≡ from + sum (lengths_in g k (number_of (part body at (group_count k))))

stands : (g : Grouping) (body : List ℕ) (k at from : ℕ) (t : ℕ × List ℕ) → group_at g body k at from ≡ given t → Stands g body k at from t
unfolding group_at group_from
stands g body k at from t e =
    let c = number_of (part body at (group_count k)) in
    let (b, e₁) = need-given (leb (group_count k) (length (drop at body))) cut_short _ t e in
    let (xs, eg, e₂) = bind-given (group_in g k c (drop from body)) _ t e₁ in
    let is : (from + sum (lengths_in g k c), xs) ≡ t = cc in
    subst (Stands g body k at from) is (record { there = leb-true _ _ b; group = eg; ends = refl })

-- its control bytes are there
pub there-at : (g : Grouping) (body : List ℕ) (k at from : ℕ) (t : ℕ × List ℕ) → group_at g body k at from ≡ given t → group_count k ≤ length (drop at body)
there-at g body k at from t e = (stands g body k at from t e).there

-- a group holds as many numbers as are asked for
pub many-at : (g : Grouping) (body : List ℕ) (k at from : ℕ) (t : ℕ × List ℕ) → group_at g body k at from ≡ given t → length t.1 ≡ k
many-at g body k at from t e = group-many g k _ (drop from body) t.1 (stands g body k at from t e).group

-- what reads as a group at offsets of a body is that group, and its data is followed by what the body goes on with
pub record GroupAt (g : Grouping) (body : List ℕ) (at from : ℕ) (t : ℕ × List ℕ) : Type 0 where
  pub there : group_count (length t.1) ≤ length (drop at body)
  pub bytes : part body at (group_count (length t.1)) ≡ controls g t.1
  pub ends : t.0 ≡ from + length (data_bytes t.1)
  pub is : drop from body ≡ data_bytes t.1 ++ drop t.0 body
  pub small : Below number_limit t.1

pub back_at : {g : Grouping} → Fields g → (body : List ℕ) (k at from : ℕ) (t : ℕ × List ℕ) → Below 256 body → group_at g body k at from ≡ given t
    → GroupAt g body at from t
back_at {g} by body k at from t low e =
    let s = stands g body k at from t e in
    let b = group-back by k _ (drop from body) t.1 (below-drop 256 from body low) s.group in
    let n : t.0 ≡ from + length (data_bytes t.1) = s.ends ∙ ap (λ (m : ℕ). from + m) (sym b.size) in
    let there : group_count (length t.1) ≤ length (drop at body) = rw b.many s.there in
    record {
      there = there;
      bytes =
          controls-back by _ t.1 (below-take 256 (group_count (length t.1)) (drop at body) (below-drop 256 at body low))
          (length-take-le (group_count (length t.1)) (drop at body) there) (rw b.many (sym b.fields));
      ends = n;
      is = b.is ∙ ap (λ (l : List ℕ). data_bytes t.1 ++ l) (drop-drop (length (data_bytes t.1)) from body ∙ ap (λ (m : ℕ). drop m body) (sym n));
      small = b.small;
    }

-- ---- bytes added behind
group-lasts : (g : Grouping) (k c : ℕ) (bytes more : List ℕ) → Lasts (λ (xs : List ℕ). Unit {0}) (group_in g k c bytes) (group_in g k c (bytes ++ more))
unfolding group_in
group-lasts g k c bytes more =
    lasts-long (sum (lengths_in g k c)) bytes more _ _ (λ there.
    lasts-rule (eqb (c / 4 ^ k) 0) _ _ (λ unused. data-lasts (lengths_in g k c) bytes more there))

-- data that begins within the body ends within it
from-lasts : (g : Grouping) (body more : List ℕ) (k c from : ℕ)
    → Lasts (λ t. from ≤ length body → t.0 ≤ length body) (group_from g body k c from) (group_from g (body ++ more) k c from)
unfolding group_from
from-lasts g body more k c from =
    let (added, e) = drop-longer from body more in
    lasts-bind (group_in g k c (drop from body)) (group_in g k c (drop from (body ++ more))) _ _
    (lasts_as refl (ap (group_in g k c) e) (group-lasts g k c (drop from body) added)) (λ xs is u.
    lasts-given (from + sum (lengths_in g k c), xs) (λ within. omega (arith, (passed g k c (drop from body) xs is).there, length-drop from body)))

pub at-lasts : (g : Grouping) (body more : List ℕ) (k at from : ℕ)
    → Lasts (λ t. from ≤ length body → t.0 ≤ length body) (group_at g body k at from) (group_at g (body ++ more) k at from)
unfolding group_at
at-lasts g body more k at from =
    let m = group_count k in
    let here = drop at body in
    let (added, e) = drop-longer at body more in
    rw e
    (lasts-long m here added _ _ (λ there.
    lasts_as refl (ap (λ (l : List ℕ). group_from g (body ++ more) k (number_of l) from) (take-append-le m here added there))
    (from-lasts g body more k (number_of (take m here)) from)))
