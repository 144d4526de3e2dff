-- Whole groups whose data is there: each number is four bytes masked, and each unit one turn of a loop that takes. Assumes nothing.
use Prim.Native.Nat.{ℕ, zero, suc, ◌+◌, ◌-◌, ◌*◌, ◌/◌, ◌%◌, ◌^◌, ◌≤◌, ◌<◌, min}
use mathlib.Core.Path.{◌≡◌, refl, sym, ap, ap₂, ◌∙◌, subst}
use mathlib.Core.List.{List, [], ◌∷◌, ◌++◌, append_assoc, append-nil}
use native.Mathlib.Nat.{zero-add, mul-zero, mul-le-mul_left, mul-div-le, pow-suc}
use native.Mathlib.Omega.{arith}
use lib.Bits.{bit_and, and_mask}
use lib.ListN.{length, get_or, take, drop, set, replicate, length-append, length-drop}
use lib.Seq.{sets, set_at, length-sets, length-take-le, take_all}
use borrow.Author.Tests.{lt-ltb, le-ltb, le-leb}
use Rattle.meaning.specs.Answer.{given}
use Rattle.meaning.specs.Bytes.{number_of, word_at}
use Rattle.meaning.specs.Codes.{code_batches}
use Rattle.meaning.specs.DataBytes.{byte_length}
use Rattle.meaning.specs.Groups.{fours, batches, group_count, lengths_in, group_from, group_at, unit_groups, unit_stream}
use Rattle.meaning.specs.Places.{Below, Spare}
use Rattle.meaning.specs.Positions.{at_byte}
use Rattle.meaning.specs.declared.Position.{Position}
use Rattle.meaning.proofs.Bounds.{below-drop, below-take}
use Rattle.meaning.proofs.Codes.{spare-always}
use Rattle.meaning.proofs.Stores.{sets-append, part-sets}
use Rattle.meaning.proofs.Taking.{Takes, takes-start, takes-next}
use Rattle.words.proofs.Bytes.{number_small}
use Rattle.words.proofs.Straight.{number-1, number-2, number-3, number-4}
use Rattle.groups.specs.Layouts.{layout_of, code_for, used}
use Rattle.groups.specs.Whole.{Field}
use Rattle.groups.specs.declared.group.Form.{Form}
use Rattle.groups.specs.declared.group.Form.TheVariants.{Fours, Stream, Batches}
use Rattle.groups.proofs.Controls.{lengths-low, mask-lengths}
use Rattle.groups.proofs.Puts.{form-fields}
use Rattle.groups.proofs.Steps.{So, so-next, so-fields, so-end, unit-for}

-- ---- one number
-- a number read from bytes has no more than they hold
pub number_fits : (body : List ℕ) (at l : ℕ) → Below 256 body → at + l ≤ length body → number_of (take l (drop at body)) < 256 ^ l
number_fits body at l low h =
    subst (λ (n : ℕ). number_of (take l (drop at body)) < 256 ^ n) (length-take-le l (drop at body) (omega (arith, length-drop at body)))
    (number_small (take l (drop at body)) (below-take 256 l (drop at body) (below-drop 256 at body low)))

-- the largest number of one, two, three and four bytes, and the least that needs so many
abbrev largest : List ℕ
largest = 255 ∷ 65535 ∷ 16777215 ∷ 4294967295 ∷ []

abbrev least : List ℕ
least = 0 ∷ 256 ∷ 65536 ∷ 16777216 ∷ []

-- four bytes masked are the number of the first of them
pub masked : (body : List ℕ) (at : ℕ) → Below 256 body → at + 4 ≤ length body → (f : ℕ) → f < 4
    → bit_and (word_at body at) (get_or largest f 0) ≡ number_of (take (f + 1) (drop at body))
unfolding word_at
masked body at low h zero lt = and_mask (word_at body at) 8 ∙ omega (arith, number-4 body at h, number-1 body at (omega arith), low at)
masked body at low h (suc zero) lt = and_mask (word_at body at) 16 ∙ omega (arith, number-4 body at h, number-2 body at (omega arith), low at, low (at + 1))
masked body at low h (suc (suc zero)) lt =
    and_mask (word_at body at) 24 ∙ omega (arith, number-4 body at h, number-3 body at (omega arith), low at, low (at + 1), low (at + 2))
masked body at low h (suc (suc (suc zero))) lt =
    and_mask (word_at body at) 32 ∙ omega (arith, number-4 body at h, low at, low (at + 1), low (at + 2), low (at + 3))
masked body at low h (suc (suc (suc (suc f)))) lt = absurd (omega arith)

-- a number that is large enough for its bytes has no fewer
enough : (x f : ℕ) → f < 4 → x < 256 ^ (f + 1) → get_or least f 0 ≤ x → byte_length x ≡ f + 1
unfolding byte_length
enough x zero lt high low = rw (lt-ltb x (2 ^ 8) high)
enough x (suc zero) lt high low = rw (le-ltb x (2 ^ 8) low, lt-ltb x (2 ^ 16) high)
enough x (suc (suc zero)) lt high low = rw (le-ltb x (2 ^ 8) (omega arith), le-ltb x (2 ^ 16) low, lt-ltb x (2 ^ 24) high)
enough x (suc (suc (suc zero))) lt high low = rw (le-ltb x (2 ^ 8) (omega arith), le-ltb x (2 ^ 16) (omega arith), le-ltb x (2 ^ 24) low)
enough x (suc (suc (suc (suc f)))) lt high low = absurd (omega arith)

-- so they are the number whose field says f, where they are large enough for it
pub field-is : {body : List ℕ} {at f x : ℕ} → Below 256 body → at + 4 ≤ length body → f < 4 → x ≡ bit_and (word_at body at) (get_or largest f 0)
    → get_or least f 0 ≤ x → Field body at f x
field-is {body} {at} {f} {x} small there few is low =
    let e = is ∙ masked body at small there f few in
    let high : x < 256 ^ (f + 1) = rw e (number_fits body at (f + 1) small (omega arith)) in
    record { is = e; fewest = enough x f few high low }

-- ---- four numbers
-- i of the four numbers of a control byte have been read, and stand in the array; the data of the others is there
pub record FourSo (body : List ℕ) (c from i fields to : ℕ) (numbers : List ℕ) : Type 0 where
  pub most : i ≤ 4
  pub low : fields < 4 ^ (4 - i)
  pub there : to + 4 * (4 - i) ≤ length body
  pub done : List ℕ
  pub counted : length done ≡ i
  pub here : numbers ≡ done ++ replicate {A = ℕ} (4 - i) 0
  pub so : So fours body 4 c from (4 - i) fields to done

module _ {body : List ℕ} {c from i fields to : ℕ} {numbers : List ℕ} (t : FourSo body c from i fields to numbers) where
  pub four-turn : {x next : ℕ} → i < 4 → Field body to (fields % 4) x → next ≡ to + (fields % 4 + 1)
      → FourSo body c from (i + 1) (fields / 4) next (set numbers i x)
  four-turn {x} more field en =
      let there = t.there in
      let falls : 4 - i ≡ suc (4 - (i + 1)) = omega arith in
      let low : fields < 4 ^ (4 - (i + 1)) * 4 = rw (falls, pow-suc) at t.low in
      let here : numbers ≡ t.done ++ (0 ∷ replicate {A = ℕ} (4 - (i + 1)) 0) = t.here ∙ ap (λ (n : ℕ). t.done ++ replicate {A = ℕ} n 0) falls in
      record {
        most = omega arith;
        low = omega arith;
        there = omega arith;
        done = t.done ++ (x ∷ []);
        counted = length-append t.done (x ∷ []) ∙ ap (λ (n : ℕ). n + 1) t.counted;
        here =
            ap (λ (ns : List ℕ). set ns i x) here
            ∙ set_at t.done 0 (replicate {A = ℕ} (4 - (i + 1)) 0) x i t.counted
            ∙ sym (append_assoc t.done (x ∷ []) (replicate {A = ℕ} (4 - (i + 1)) 0));
        so = rw en (so-next (omega arith) field.is (rw falls at t.so) (omega arith) field.fewest);
      }

  pub four-end : {end : ℕ} → 4 ≤ i → end ≡ to → group_from fours body 4 c from ≡ given (end, numbers)
  four-end all ee =
      let is : i ≡ 4 = omega (arith, t.most) in
      let none : 4 - i ≡ 0 = omega arith in
      let low : fields < 4 ^ 0 = rw none at t.low in
      let here : numbers ≡ t.done = t.here ∙ rw none (append-nil t.done) in
      rw (ee, here) (so-end (rw none at t.so) (omega arith))

-- ---- a batch, by its four masks
-- a mask byte and the control byte that it leaves of 255 say the same lengths
mask-says : (masks c : ℕ) → c ≡ 255 - masks % 256 → lengths_in batches 4 masks ≡ lengths_in fours 4 c
mask-says masks c ec =
    let low : masks % 256 < 4 ^ 4 = omega arith in
    lengths-low batches masks ∙ sym (mask-lengths 4 (masks % 256) low) ∙ ap (lengths_in fours 4) (sym ec)

-- i masks of the batch at an offset have been taken: their numbers stand in the array, the data of the next begins at `to`
pub record TakesBatch (body : List ℕ) (at i masks to : ℕ) (batch : List ℕ) : Type 0 where
  pub most : i ≤ 4
  pub low : masks < 256 ^ (4 - i)
  pub done : List ℕ
  pub counted : length done ≡ 4 * i
  pub here : batch ≡ sets (replicate {A = ℕ} 16 0) 0 done
  pub so : So batches body 16 (word_at body at) (at + 4) (16 - 4 * i) masks to done

module _ {body : List ℕ} {at i masks to : ℕ} {batch : List ℕ} (t : TakesBatch body at i masks to batch) where
  pub batch-long : length batch ≡ 16
  batch-long = ap length t.here ∙ length-sets (replicate {A = ℕ} 16 0) 0 t.done

  -- the next four numbers
  pub batch-turn : {c r : ℕ} {four batch' : List ℕ} → i < 4 → c ≡ 255 - masks % 256 → group_from fours body 4 c to ≡ given (r, four) → length four ≡ 4
      → batch' ≡ sets batch (4 * i) four → TakesBatch body at (i + 1) (masks / 256) r batch'
  batch-turn {c} {r} {four} more ec is many here =
      let falls : 4 - i ≡ suc (4 - (i + 1)) = omega arith in
      let low : masks < 256 ^ (4 - (i + 1)) * 256 = rw (falls, pow-suc) at t.low in
      let counted = t.counted in
      record {
        most = omega arith;
        low = omega arith;
        done = t.done ++ four;
        counted = length-append t.done four ∙ omega arith;
        here = here ∙ rw (t.here, ← counted, ← (zero-add (length t.done))) (sets-append t.done four (replicate {A = ℕ} 16 0) 0);
        so = so-fields fours 4 (16 - 4 * i) masks c to r t.done four (omega arith) t.so is (mask-says masks c ec);
      }

  -- all four
  pub batch-end : (p : Position) {q : Position} → at + 4 ≤ length body → 4 ≤ i → p.head.byte ≡ at → q ≡ at_byte to
      → code_batches.unit body 16 p ≡ given (q, batch)
  unfolding unit_groups group_at group_count word_at
  batch-end p there all ep next =
      let is : i ≡ 4 = omega (arith, t.most) in
      let none : 16 - 4 * i ≡ 0 = omega arith in
      let low : masks < 256 ^ (4 - 4) = rw is at t.low in
      let many : length t.done ≡ 16 = t.counted ∙ ap (λ (n : ℕ). 4 * n) is in
      let whole : t.done ≡ batch =
      sym (part-sets t.done (replicate {A = ℕ} 16 0) 0 (omega arith)) ∙ ap₂ take many (sym t.here) ∙ take_all 16 batch (omega (arith, batch-long)) in
      rw (ep, le-leb 4 (length (drop at body)) (omega (arith, length-drop at body)), so-end (rw none at t.so) (omega arith), whole, next)

-- ---- as a unit
-- the one control byte of a full group of four
pub four-at : (body : List ℕ) (at from c : ℕ) → at < length body → c ≡ get_or body at 0 → group_at fours body 4 at from ≡ group_from fours body 4 c from
unfolding group_at group_count
four-at body at from c there byte =
    rw (le-leb 1 (length (drop at body)) (omega (arith, length-drop at body)), number-1 body at (omega arith), byte)

pub group-taken : (form : Form) (body : List ℕ) (p : Position) {numbers : List ℕ} {c end : ℕ} {q : Position}
    → (layout_of form).group.most ≡ 4 → p.head.byte < length body → c ≡ get_or body p.head.byte 0
    → group_from fours body 4 c ((layout_of form).from 1 p) ≡ given (end, numbers) → q ≡ (layout_of form).next 1 p end
    → (code_for form).unit body 4 p ≡ given (q, numbers)
unfolding unit_groups unit_stream group_count
group-taken Fours body p {c = c} few there byte is next = rw (four-at body p.head.byte (p.head.byte + 1) c there byte ∙ is, next)
group-taken Stream body p {c = c} few there byte is next = rw (four-at body p.head.byte p.tail.byte c there byte ∙ is, next)
group-taken Batches body p few there byte is next = absurd (omega arith)

-- ---- a loop that takes units
-- no unit depends on more of a position than what is used of it
unit-used : (form : Form) (body : List ℕ) (left : ℕ) (p : Position) → (code_for form).unit body left p ≡ (code_for form).unit body left (used form p)
unfolding unit_groups unit_stream
unit-used Fours body left p = refl
unit-used Stream body left p = refl
unit-used Batches body left p = refl

abbrev pub full : Form → ℕ
full form = (layout_of form).group.most

module _ (form : Form) where
  pub some-full : 0 < full form
  some-full = (form-fields form).any

  -- each unit may follow any other
  free : (before : List ℕ) → Spare (code_for form).joins before 0
  free = elim form as (λ f. (before : List ℕ) → Spare (code_for f).joins before 0) [ Fours ↦ spare-always | Stream ↦ spare-always | Batches ↦ spare-always ]

  -- where enough is left, the unit is full
  unit-full : (body : List ℕ) (left : ℕ) (p : Position) → full form ≤ left → (code_for form).unit body left p ≡ (code_for form).unit body (full form) p
  unit-full body left p h =
      let e : min (full form) left ≡ min (full form) (full form) = omega arith in
      unit-for form body left p ∙ rw e (sym (unit-for form body (full form) p))

  -- there is room for one unit more
  pub one-more : (left room : ℕ) {limit units : ℕ} → limit ≡ min left room / full form → units < limit → full form * units + full form ≤ min left room
  one-more left room {limit} el more =
      let most : full form * limit ≤ min left room = rw el (mul-div-le (min left room) (full form)) in
      omega (arith, mul-le-mul_left (full form) more)

  -- so many full units stand in work, and the next is at a position
  abbrev pub Units : List ℕ → ℕ → Position → ℕ → List ℕ → List ℕ → ℕ → Position → Type 0
  Units body left p from w₀ w units to = Takes (code_for form) body left p w₀ from w (full form * units) units 0 to

  module _ {body : List ℕ} {left : ℕ} {p : Position} {from : ℕ} {w₀ : List ℕ} where
    pub units-start : Units body left p from w₀ w₀ 0 (used form p)
    units-start = rw (mul-zero (full form)) (takes-start (code_for form) body left p w₀ from (used form p) (free []) (λ k. unit-used form body k p))

    module _ {w : List ℕ} {units : ℕ} {to : Position} (t : Units body left p from w₀ w units to) where
      pub units-turn : {numbers w' : List ℕ} {q : Position} → full form * units + full form ≤ left
          → (code_for form).unit body (full form) to ≡ given (q, numbers) → length numbers ≡ full form → w' ≡ sets w (from + full form * units) numbers
          → Units body left p from w₀ w' (units + 1) q
      units-turn {numbers} {w'} {q} fits is many here =
          let some = some-full in
          let count : full form * units + length numbers ≡ full form * (units + 1) = omega arith in
          subst (λ (i : ℕ). Takes (code_for form) body left p w₀ from w' i (units + 1) 0 q) count
          (takes-next (code_for form) body left p w₀ from w (full form * units) units 0 to t refl (q, numbers) w' (omega arith)
          (unit-full body (left - full form * units) to (omega arith) ∙ is) (omega arith) (free numbers) here)
