-- One number by a plan, stage by stage: what each inner call is asked, and what its answer makes. Assumes nothing.
use Prim.Native.Nat.{ℕ, zero, suc, ◌+◌, ◌-◌, ◌*◌, ◌≤◌, ◌<◌, min}
use mathlib.Core.Path.{◌≡◌, refl, sym, ap, ◌∙◌, fun_ext}
use mathlib.Core.Bool.{false, cond}
use mathlib.Core.List.{List}
use native.Mathlib.Nat.{zero-add}
use native.Mathlib.Omega.{arith}
use lib.Dec.{eqb}
use Rattle.std.specs.Prelude.{Option, Some, None, SomeIff, ok_or, Result, Ok}
use lib.ListN.{length, get_or, take, drop}
use lib.Seq.{take_all, length-take-le, get_or-take}
use Rattle.meaning.specs.Answer.{Answer, given, refused, number}
use Rattle.meaning.specs.Bytes.{word_at}
use Rattle.meaning.specs.Codes.{code_of, look_code}
use Rattle.meaning.specs.Limits.{number_limit, cut_short, broken}
use Rattle.meaning.specs.Plan.{Plan, bad, code, reference, differences, runs}
use Rattle.meaning.specs.Stages.{within, seek, look, numbers_through}
use Rattle.meaning.specs.declared.Place.{Place}
use Rattle.meaning.specs.declared.Refusal.{Refusal}
use Rattle.meaning.specs.Says.{refusal_number, says}
use Rattle.meaning.specs.declared.Refusal.TheVariants as refusal
use Rattle.meaning.proofs.Answers.{bind-given}
use Rattle.meaning.proofs.Tests.{by_order}
use Rattle.codes.specs.Firsts.{Firsts, Looked, total}
use Rattle.codes.specs.declared.First.{First}
use Rattle.stages.specs.Room.{room, Fits}
use Rattle.stages.specs.Header.{header_in}
use Rattle.stages.proofs.Headers.{Headed, headed}
use Rattle.stages.proofs.Parts.{to_the_end}
use Rattle.stages.specs.Seeks.{sought_from, Within, Seeks}
use Rattle.stages.specs.declared.Sought.{Sought}
use Rattle.stages.specs.declared.Sought.TheVariants as sought
use Rattle.codes.proofs.Numbered.{laws}
use Rattle.codes.proofs.Totals.{total-stops, total-numbers}
use Rattle.stages.proofs.Faults.{through-faulty}
use Rattle.stages.proofs.Looks.{within-given}
use Rattle.stages.proofs.Through.{within-over, through-all, differences-later}
use Rattle.stages.proofs.Seeks.{seek-below, seek-stops, seek-none}
use Rattle.plan_look.specs.Turns.{stop_of, run_of, run_in}
use Rattle.plan_look.proofs.Looks.{bad-at, code_at, reference-short, reference-at, look-run}

-- no refusal's number says that nothing is refused
number-some : (e : Refusal) → eqb (refusal_number e) 0 ≡ false
number-some refusal.NoSheet = refl
number-some refusal.BadTable = refl
number-some refusal.Malformed = refl
number-some refusal.Unfit = refl
number-some refusal.NoColumn = refl
number-some refusal.NoPlace = refl
number-some refusal.NoRoom = refl
number-some refusal.ShortWork = refl
number-some refusal.CutShort = refl
number-some refusal.Falls = refl
number-some refusal.BadOrders = refl
number-some refusal.BadBoard = refl
number-some refusal.Broken = refl

-- a sum of two numbers that is tested as it is made
checked-within : (r : Option ℕ) (v : ℕ) → SomeIff r (v < number_limit) v → says (ok_or r refusal.Broken) ≡ within v
checked-within (Some x) v h = ap (λ (y : ℕ). given y) h.1 ∙ sym (within-given v h.0)
checked-within None v h = by_order v number_limit (λ l. absurd (h l)) (λ l. sym (within-over v l))

-- ---- the work that a lookup lays out for itself
room-two : (l n : ℕ) → l ≤ 2 → room l n ≤ 5 * n
unfolding room
room-two zero n h = omega arith
room-two (suc zero) n h = omega arith
room-two (suc (suc zero)) n h = omega arith
room-two (suc (suc (suc l))) n h = absurd (omega arith)

pub look-fits : {body : List ℕ} {n place : ℕ} → Looked body n place → {l many : ℕ} {w : List ℕ} → l ≤ 2 → many ≤ n → length w ≡ 5120 → Fits body w l many 0
look-fits s {l} {many} h m e = record { short = s.short; few = omega (arith, s.few); within = omega (arith, room-two l many h, s.few) }

-- the first lengths, as many as the place and one or as there are runs, are enough to find the run
module _ (at : ℕ → Answer ℕ) (n place many few : ℕ) (w w' : List ℕ) (got : First) (e : few ≡ min many (place + 1))
    (f : Firsts at few 0 w w' got) where
  sought-on : (s : Place) → got.count ≤ s.number → s.number ≤ place → seek at n place (many - got.count) (0 + got.count) s.number
      ≡ refused (refusal_number (stop_of got.stop))
  sought-on s a b =
      by_order got.count many
      (λ h. let (z, q, r) = f.stops (omega arith) in
      rw q (seek-stops at n place (many - got.count) (0 + got.count) s.number (omega arith) _ (rw (zero-add got.count) r)))
      (λ h. rw (f.all (omega (arith, f.most))) (seek-none at n place (many - got.count) (0 + got.count) s.number (omega arith)))

  module _ (room : got.count ≤ length w') {r : Result Sought Refusal} (s : Seeks (take got.count w') n place 0 r) where
    size : length (take got.count w') ≡ got.count
    size = length-take-le got.count w' room

    on-sought : seek at n place many 0 0 ≡ sought_from at n place many 0 got.count r
    on-sought =
        s.told at many 0
        (λ i h. let b : i < got.count = omega (arith, size) in
        ap at (zero-add i) ∙ f.are i b ∙ ap (λ (x : ℕ). given (get_or w' x 0)) (zero-add i)
        ∙ ap (λ (x : ℕ). given x) (sym (get_or-take got.count w' i 0 b)))
        (omega (arith, size, f.most))
        ∙ ap (λ (k : ℕ). sought_from at n place many 0 k r) size

    pub run-sought : {x : Sought} → r ≡ Ok x → run_of got x ≡ seek at n place many 0 0
    run-sought {x} q =
        let h : Within (length (take got.count w')) n place 0 (Ok x) = rw q at s.within in
        by-sought x h (on-sought ∙ ap (sought_from at n place many 0 got.count) q)
      where
        by-sought : (x : Sought) → Within (length (take got.count w')) n place 0 (Ok x)
            → seek at n place many 0 0 ≡ sought_from at n place many 0 got.count (Ok x) → run_of got x ≡ seek at n place many 0 0
        by-sought (sought.At j) h t = ap (λ (k : ℕ). given k) (sym (zero-add j.number)) ∙ sym t
        by-sought (sought.After s) h t = sym (t ∙ sought-on s (omega (arith, size, h.1)) (h.2 (omega arith)))

-- ---- a plan that is a code
module _ (p : Plan) (body : List ℕ) (n c : ℕ) (e : p ≡ code c) where
  pub by_code : look p body n ≡ look_code (code_of c) body n
  by_code = fun_ext (code_at p body n c e)

  pub code-total : (k : ℕ) (a : Answer ℕ) → a ≡ total (look_code (code_of c) body n) k → a ≡ total (look p body n) k
  code-total k a h = h ∙ ap (λ (f : ℕ → Answer ℕ). total f k) (sym by_code)

  pub code-run : (m place : ℕ) (a : Answer ℕ) → a ≡ seek (look_code (code_of c) body n) m place n 0 0 → a ≡ seek (look p body n) m place n 0 0
  code-run m place a h = h ∙ ap (λ (f : ℕ → Answer ℕ). seek f m place n 0 0) (sym by_code)

-- ---- stage by stage
module _ (p : Plan) (body : List ℕ) (n place : ℕ) where
  pub look-bad : p ≡ bad → refused broken ≡ look p body n place
  look-bad e = sym (bad-at p body n e place)

  pub look-code : (c : ℕ) (a : Answer ℕ) → p ≡ code c → a ≡ look_code (code_of c) body n place → a ≡ look p body n place
  look-code c a e h = h ∙ sym (code_at p body n c e place)

  module _ (q : Plan) (e : p ≡ differences q) where
    -- the sum is refused: first by what its numbers are read from, then by itself
    differences-refused : {z : ℕ} (t : ℕ) → refused z ≡ total (look q body n) (place + 1) → t ≡ number (numbers_through q body n place)
        → refused (cond (eqb t 0) z t) ≡ look p body n place
    differences-refused {z} t h et =
        let (k, l, s) = total-stops (look q body n) (place + 1) z (sym h) in
        rw (e, et) (sym (differences-later q body n place k z (omega arith) s (through-faulty laws q body n place)))

    pub differences-first : {z : ℕ} (y : Refusal) → refused z ≡ total (look q body n) (place + 1) → refusal_number y ≡ number (numbers_through q body n place)
        → refused (refusal_number y) ≡ look p body n place
    differences-first y h t = let a = differences-refused (refusal_number y) h t in rw (number-some y) at a

    pub differences-last : {z : ℕ} → refused z ≡ total (look q body n) (place + 1) → 0 ≡ number (numbers_through q body n place)
        → refused z ≡ look p body n place
    differences-last h t = differences-refused 0 h t

    pub differences-sum : {x : ℕ} {a : Answer ℕ} → given x ≡ total (look q body n) (place + 1) → a ≡ within x → a ≡ look p body n place
    unfolding look
    differences-sum {x} h t =
        let (xs, s, long, at) = total-numbers (look q body n) (place + 1) x (sym h) in
        let through = through-all q body n place xs (omega arith) (λ k l. at k (omega arith)) in
        let all : take (place + 1) xs ≡ xs = take_all (place + 1) xs (omega arith) in
        t ∙ sym (rw (e, through, all) (ap within s))

  module _ (q : Plan) (e : p ≡ reference q) where
    pub look-short : length body < 4 → refused cut_short ≡ look p body n place
    look-short h = sym (reference-short p body n q e h place)

    module _ {m : ℕ} (h : 4 ≤ length body) (em : m ≡ word_at body 0) where
      pub reference-refused : {z : ℕ} → refused z ≡ look q (take (length body - 4) (drop 4 body)) n place → refused z ≡ look p body n place
      reference-refused t = sym (reference-at p body n q e m h em place ∙ rw (← t))

      pub reference-sum : {x : ℕ} (r : Option ℕ) → given x ≡ look q (take (length body - 4) (drop 4 body)) n place → SomeIff r (m + x < number_limit) (m + x)
          → says (ok_or r refusal.Broken) ≡ look p body n place
      reference-sum r t u = checked-within r _ u ∙ sym (reference-at p body n q e m h em place ∙ rw (← t))

  module _ (p₁ q : Plan) (e : p ≡ runs p₁ q) where
    pub look-no-run : {z : ℕ} → refused z ≡ run_in q body n place → refused z ≡ look p body n place
    look-no-run h = rw e (sym (look-run p₁ q body n place ∙ rw (← h)))

    pub look-at-run : {k end j : ℕ} {a : Answer ℕ} → given ((k, end), j) ≡ run_in q body n place → a ≡ look p₁ (take (end - 8) (drop 8 body)) k j
        → a ≡ look p body n place
    look-at-run h t = t ∙ rw e (sym (look-run p₁ q body n place ∙ rw (← h)))

-- ---- what was found at a run stage
module _ (q : Plan) (body : List ℕ) (n place : ℕ) where
  pub run-headless : {z : ℕ} → refused z ≡ header_in n body → refused z ≡ run_in q body n place
  unfolding run_in
  run-headless h = rw (← h)

  module _ {k end : ℕ} (h : given (k, end) ≡ header_in n body) where
    pub run-refused : {z : ℕ} → refused z ≡ seek (look q (take (length body - end) (drop end body)) k) n place k 0 0 → refused z ≡ run_in q body n place
    unfolding run_in
    run-refused s = let s' = rw (to_the_end body end) at s in rw (← h, ← s')

    pub run-given : {j : ℕ} → given j ≡ seek (look q (take (length body - end) (drop end body)) k) n place k 0 0 → given ((k, end), j) ≡ run_in q body n place
    unfolding run_in
    run-given s = let s' = rw (to_the_end body end) at s in rw (← h, ← s')

  module _ {k end j : ℕ} (h : given ((k, end), j) ≡ run_in q body n place) where
    run-split : (given (k, end) ≡ header_in n body) × (given j ≡ seek (look q (drop end body) k) n place k 0 0)
    unfolding run_in
    run-split =
        let (x, s, t) = bind-given (header_in n body) _ ((k, end), j) (sym h) in
        let (i, u, v) = bind-given (seek (look q (drop x.1 body) x.0) n place x.0 0 0) _ ((k, end), j) t in
        go x s i u (let z : ◌≡◌ {A = (ℕ × ℕ) × ℕ} (x, i) ((k, end), j) = cc in z)
      where
        go : (x : ℕ × ℕ) → header_in n body ≡ given x → (i : ℕ) → seek (look q (drop x.1 body) x.0) n place x.0 0 0 ≡ given i
            → ◌≡◌ {A = (ℕ × ℕ) × ℕ} (x, i) ((k, end), j)
            → (given (k, end) ≡ header_in n body) × (given j ≡ seek (look q (drop end body) k) n place k 0 0)
        go x s i u z =
            let same : x ≡ (k, end) = ap (λ (y : (ℕ × ℕ) × ℕ). y.0) z in
            let run : i ≡ j = ap (λ (y : (ℕ × ℕ) × ℕ). y.1) z in
            (sym (rw same at s), sym (rw (same, run) at u))

    pub run-headed : Headed n body k end
    run-headed = headed {r = Ok (record { runs = k; end = record { byte = end } })} run-split.0 refl

    -- the values hold it
    pub run-looked : {inner : List ℕ} → Looked body n place → length inner ≤ length body → Looked inner k j
    run-looked r i =
        let below = seek-below (look q (drop end body) k) n place k 0 0 j (sym run-split.1) in
        record { short = omega (arith, r.short); few = omega (arith, r.few, run-headed.few); inside = omega arith }

-- a body's part, asked for the same place
pub looked-part : {body inner : List ℕ} {n place : ℕ} → Looked body n place → length inner ≤ length body → Looked inner n place
looked-part r h = record { short = omega (arith, r.short); few = r.few; inside = r.inside }
