-- What a walk knows that looks numbers up, and the first numbers that it lays into work. Assumes nothing.
use Prim.Native.Nat.{ℕ, ◌+◌, ◌-◌, ◌≤◌, ◌<◌, min}
use mathlib.Core.Path.{◌≡◌, refl, sym, ap, ap₂, ◌∙◌, subst}
use mathlib.Core.List.{List, [], ◌∷◌}
use native.Mathlib.Nat.{zero-add, add-zero}
use native.Mathlib.Omega.{arith}
use Rattle.std.specs.Prelude.{Result, Ok, Err, Some, None}
use lib.ListN.{length, get_or, take, set, length-take}
use lib.Seq.{sets, length-sets, get_or-take}
use Rattle.meaning.specs.Answer.{Answer, given, refused}
use Rattle.meaning.specs.Codes.{Code, by_units, code_of, look_code}
use Rattle.meaning.specs.Limits.{most_bytes}
use Rattle.meaning.specs.Places.{Below}
use Rattle.meaning.specs.Units.{look_units}
use Rattle.meaning.specs.Says.{refusal_number, says}
use Rattle.meaning.specs.declared.Position.{Position}
use Rattle.meaning.specs.declared.Refusal.{Refusal}
use Rattle.meaning.specs.declared.Taken.{Taken}
use Rattle.meaning.proofs.Loops.{Walked, walk_start, walk-refuse}
use Rattle.meaning.proofs.Stores.{get_d_sets, take-sets}
use Rattle.meaning.proofs.Stretches.{walk-stretch, stretch-here, stretch-few}
use Rattle.meaning.proofs.Tests.{by_order}
use Rattle.stages.proofs.Parts.{stored-get}
use Rattle.codes.specs.Firsts.{Firsts}
use Rattle.codes.specs.Goes.{Passed, Goes}
use Rattle.codes.specs.declared.First.{First}
use Rattle.codes.proofs.Numbered.{laws}
use Rattle.codes.proofs.Stretches.{goes-refused}

-- by units: i numbers of n have been passed, and the next unit is at p
pub record Looking (code : ℕ) (body : List ℕ) (n i : ℕ) (p : Position) : Type 0 where
  pub way : (code_of code).way ≡ by_units
  pub bytes : Below 256 body
  pub short : length body ≤ most_bytes
  pub first : Position
  pub start : (code_of code).start body n ≡ given first
  pub so : Walked ((code_of code).unit body) n first i p

-- where the first unit begins
module _ (code : ℕ) (body : List ℕ) (n : ℕ) (way : (code_of code).way ≡ by_units) {s : Result Position Refusal}
    (is : says s ≡ (code_of code).start body n) where
  pub looking-start : Below 256 body → length body ≤ most_bytes → {p : Position} → s ≡ Ok p → Looking code body n 0 p
  looking-start b h {p} e =
      record { way = way; bytes = b; short = h; first = p; start = sym is ∙ ap says e; so = walk_start ((code_of code).unit body) n p }

  pub start-refuses : {e : Refusal} → s ≡ Err e → (place : ℕ) → look_code (code_of code) body n place ≡ refused (refusal_number e)
  unfolding look_code
  start-refuses {e} q place = let w : (code_of code).start body n ≡ refused (refusal_number e) = sym is ∙ ap says q in rw (way, w)

module _ {code : ℕ} {body : List ℕ} {n i : ℕ} {p : Position} (l : Looking code body n i p) where
  look_is : (place : ℕ) → look_code (code_of code) body n place ≡ look_units ((code_of code).unit body) n place l.first
  unfolding look_code
  look_is place = rw (l.way, l.start)

  -- the next unit is refused, and so is every place from here on
  pub refuses : {room from : ℕ} {w w' : List ℕ} {r : Result Taken Refusal} → Goes (code_of code) body (n - i) p room from w w' r → {e : Refusal}
      → r ≡ Err e → (place : ℕ) → i ≤ place → place < n → look_code (code_of code) body n place ≡ refused (refusal_number e)
  refuses g q place h b =
      look_is place ∙ walk-refuse ((code_of code).unit body) n l.first ((laws code).good body l.bytes) i p l.so _ (goes-refused g q).0 place h b

  module _ {room from : ℕ} {w w' : List ℕ} {r : Taken} (went : Passed (code_of code) body (n - i) p room from w w' r) where
    -- the units that are passed hold no number beyond the list
    pub passes : i ≤ n → i + r.count ≤ n
    passes h =
        omega (arith, stretch-few ((code_of code).unit body) (code_of code).joins (n - i) p ((laws code).good body l.bytes) went.are, went.counted)

    pub looking-on : Looking code body n (i + r.count) r.next
    looking-on =
        let t = walk-stretch ((code_of code).unit body) (code_of code).joins n l.first ((laws code).good body l.bytes) i p l.so went.are in
        record { way = l.way; bytes = l.bytes; short = l.short; first = l.first; start = l.start; so = rw went.counted at t }

    -- the numbers at the next places
    pub those : (j : ℕ) → j < r.count → look_code (code_of code) body n (i + j) ≡ given (get_or went.numbers j 0)
    those j b =
        look_is (i + j)
        ∙ stretch-here ((code_of code).unit body) (code_of code).joins n l.first ((laws code).good body l.bytes) i p l.so went.are j
        (omega (arith, went.counted))

    -- as they stand in work
    pub here : from + room ≤ length w → (j : ℕ) → j < r.count → j < room → look_code (code_of code) body n (i + j) ≡ given (get_or w' (from + j) 0)
    here fits j b h =
        let m = length-take room went.numbers in
        those j b
        ∙ ap (λ (x : ℕ). given x)
        (sym (ap (λ (k : List ℕ). get_or k (from + j) 0) went.here
        ∙ stored-get (take room went.numbers) w from j (omega (arith, went.counted)) (omega (arith, went.counted))
        ∙ get_or-take room went.numbers j 0 h))

  -- and where they stand from the first on
  pub front : {room : ℕ} {w w' : List ℕ} {r : Taken} → Passed (code_of code) body (n - i) p room 0 w w' r → room ≤ length w → (j : ℕ) → j < r.count → j < room
      → look_code (code_of code) body n (i + j) ≡ given (get_or w' j 0)
  front {w' = w'} went fits j b h = here went (omega arith) j b h ∙ ap (λ (x : ℕ). given (get_or w' x 0)) (zero-add j)

  -- the number at a place among them
  pub found : {room : ℕ} {w w' : List ℕ} {r : Taken} → Passed (code_of code) body (n - i) p room 0 w w' r → room ≤ length w
      → (place : ℕ) → i ≤ place → place - i < r.count → place - i < room → look_code (code_of code) body n place ≡ given (get_or w' (place - i) 0)
  found went fits place h b k =
      let e : i + (place - i) ≡ place = omega arith in
      ap (look_code (code_of code) body n) (sym e) ∙ front went fits (place - i) b k

-- ---- the numbers at the first places, laid into work from a place on
pub record Laid (at : ℕ → Answer ℕ) (to : ℕ) (w₀ w : List ℕ) (i : ℕ) : Type 0 where
  pub are : (j : ℕ) → j < i → at j ≡ given (get_or w (to + j) 0)
  pub kept : take to w ≡ take to w₀
  pub long : length w ≡ length w₀

pub laid_none : {at : ℕ → Answer ℕ} {to : ℕ} {w : List ℕ} → Laid at to w w 0
laid_none = record { are = λ j h. absurd (omega arith); kept = refl; long = refl }

module _ {at : ℕ → Answer ℕ} {to : ℕ} {w₀ w : List ℕ} {i : ℕ} (so : Laid at to w₀ w i) where
  laid_more : (ys : List ℕ) (m : ℕ) (w' : List ℕ) → length ys ≡ m → to + i + m ≤ length w → w' ≡ sets w (to + i) ys
      → ((j : ℕ) → j < m → at (i + j) ≡ given (get_or ys j 0)) → Laid at to w₀ w' (i + m)
  laid_more ys m w' l room e f =
      record {
        are = λ j h.
            by_order j i
            (λ b. so.are j b ∙ ap (λ (x : ℕ). given x) (sym (ap (λ (k : List ℕ). get_or k (to + j) 0) e ∙ get_d_sets ys w (to + j) (to + i) 0 (omega arith))))
            (λ b. let q : j ≡ i + (j - i) = omega arith in
            let p : to + j ≡ to + i + (j - i) = omega arith in
            ap at q ∙ f (j - i) (omega arith)
            ∙ ap (λ (x : ℕ). given x) (sym (ap₂ (λ (k : List ℕ) (y : ℕ). get_or k y 0) e p ∙ stored-get ys w (to + i) (j - i) (omega arith) (omega arith))));
        kept = ap (take to) e ∙ take-sets ys w to (to + i) (omega arith) ∙ so.kept;
        long = ap length e ∙ length-sets w (to + i) ys ∙ so.long;
      }

  -- one number more
  pub laid_one : {x : ℕ} → to + i < length w → at i ≡ given x → Laid at to w₀ (set w (to + i) x) (i + 1)
  laid_one {x} room e =
      laid_more (x ∷ []) 1 (set w (to + i) x) refl (omega arith) refl
      (λ j h. let z : j ≡ 0 = omega arith in rw z (ap at (add-zero i) ∙ e))

  -- what a stretch laid after them, as far as there is room for k
  pub laid-went : {k : ℕ} → to + k ≤ length w₀ → i ≤ k → {c : Code} {body : List ℕ} {left : ℕ} {p : Position} {w' : List ℕ} {r : Taken}
      → (went : Passed c body left p (k - i) (to + i) w w' r) → {m : ℕ} → m ≡ min (k - i) r.count
      → ((j : ℕ) → j < r.count → at (i + j) ≡ given (get_or went.numbers j 0)) → Laid at to w₀ w' (i + m)
  laid-went {k} fits h {w' = w'} went {m} e f =
      let l : length (take (k - i) went.numbers) ≡ m = length-take (k - i) went.numbers ∙ omega (arith, went.counted) in
      laid_more (take (k - i) went.numbers) m w' l (omega (arith, so.long)) went.here
      (λ j b. f j (omega arith) ∙ ap (λ (x : ℕ). given x) (sym (get_or-take (k - i) went.numbers j 0 (omega arith))))

  -- what the walk answers
  pub firsts-stop : {k : ℕ} {e : Refusal} → i < k → at i ≡ refused (refusal_number e) → Firsts at k to w₀ w (record { count = i; stop = Some e })
  firsts-stop {e = e} h q = record { most = omega arith; are = so.are; stops = λ b. (e, refl, q); all = λ b. absurd (omega arith); kept = so.kept }

  pub firsts-all : {k : ℕ} → i ≡ k → Firsts at k to w₀ w (record { count = k; stop = None })
  firsts-all h = record { most = omega arith; are = λ j b. so.are j (omega arith); stops = λ b. absurd (omega arith); all = λ b. refl; kept = so.kept }

-- the same by an equal way to look up
pub firsts_same : {at at' : ℕ → Answer ℕ} → at' ≡ at → {k to : ℕ} {w w' : List ℕ} {r : First} → Firsts at k to w w' r → Firsts at' k to w w' r
firsts_same e {k} {to} {w} {w'} {r} f = subst (λ (look : ℕ → Answer ℕ). Firsts look k to w w' r) (sym e) f
