-- One group, field by field, and its answer as a unit. Assumes nothing.
use Prim.Native.Nat.{ℕ, zero, suc, ◌+◌, ◌-◌, ◌*◌, ◌/◌, ◌%◌, ◌^◌, ◌≤◌, ◌<◌, min}
use mathlib.Core.Path.{◌≡◌, refl, sym, ap, ◌∙◌}
use mathlib.Core.Bool.{Bool, true, false}
use mathlib.Core.List.{List, [], ◌∷◌, ◌++◌, append_assoc, append-nil}
use native.Mathlib.Nat.{div-one, add-zero, add_assoc, sub-zero}
use native.Mathlib.Omega.{arith}
use lib.Dec.{leb, eqb}
use lib.ListN.{length, take, drop, set, replicate, length-append, length-drop}
use lib.Seq.{drop-drop, set_at, take_at, drop_at}
use Rattle.std.specs.Prelude.{Result, Ok, Err}
use borrow.Author.Tests.{le-leb, lt-leb, eq-eqb, ne_eqb, eqb-true, eqb-false}
use Rattle.meaning.specs.Answer.{Answer, given, refused, bind, need}
use Rattle.meaning.specs.Bytes.{number_of}
use Rattle.meaning.specs.DataBytes.{byte_length, data_in}
use Rattle.meaning.specs.Groups.{Grouping, group_count, lengths_in, group_in, group_from, group_at, unit_groups, unit_stream}
use Rattle.meaning.specs.Limits.{cut_short, broken, most_bytes, unit_places}
use Rattle.meaning.specs.Lists.{sum}
use Rattle.meaning.specs.Places.{UnitIs, part}
use Rattle.meaning.specs.declared.Position.{Position}
use Rattle.meaning.specs.declared.UnitRead.{UnitRead}
use Rattle.meaning.specs.declared.Refusal.{Refusal}
use Rattle.meaning.specs.declared.Refusal.TheVariants.{CutShort, Broken}
use Rattle.meaning.proofs.Answers.{not-given, bind-given, bind-cong}
use Rattle.meaning.proofs.UnitAnswers.{is-read, is-refused}
use Rattle.meaning.proofs.Tests.{by_order, by-test}
use Rattle.groups.specs.Layouts.{Layout, size, unit_by, layout_of, code_for}
use Rattle.groups.specs.declared.group.Form.{Form}
use Rattle.groups.specs.declared.group.Form.TheVariants.{Fours, Stream, Batches}
use Rattle.groups.proofs.Controls.{quarter}

-- ---- answers
bind-bind : {A B C : Type 0} (m : Answer A) (f : A → Answer B) (g : B → Answer C) → bind m (λ a. bind (f a) g) ≡ bind (bind m f) g
bind-bind (given a) f g = refl
bind-bind (refused e) f g = refl

bind-same : {A : Type 0} (m : Answer A) → bind m (λ a. given a) ≡ m
bind-same (given a) = refl
bind-same (refused e) = refl

-- the same refusal either way
need-refused : {A B : Type 0} (test : Bool) (k : A → Answer B) → bind (need test broken (refused broken)) k ≡ refused broken
need-refused true k = refl
need-refused false k = refl

-- a first number goes before those of a group, or after its tests
first-moves : (a b : Bool) (others : Answer (List ℕ)) (x end : ℕ)
    → bind {B = ℕ × List ℕ} (need a cut_short (need b broken (bind others (λ xs. given (x ∷ xs))))) (λ xs. given (end, xs))
    ≡ bind {A = ℕ × List ℕ} (bind (need a cut_short (need b broken others)) (λ xs. given (end, xs))) (λ t. given (t.0, x ∷ t.1))
first-moves true true (given xs) x end = refl
first-moves true true (refused e) x end = refl
first-moves true false others x end = refl
first-moves false b others x end = refl

leb-after : (l s n : ℕ) → l ≤ n → leb (l + s) n ≡ leb s (n - l)
leb-after l s n h =
    by_order (n - l) s
    (λ t. lt-leb (l + s) n (omega arith) ∙ sym (lt-leb s (n - l) t))
    (λ t. le-leb (l + s) n (omega arith) ∙ sym (le-leb s (n - l) t))

-- ---- how many bytes of data the fields say
abbrev data_size : Grouping → ℕ → ℕ → ℕ
data_size g k c = sum (lengths_in g k c)

size_none : (g : Grouping) (c : ℕ) → data_size g 0 c ≡ 0
unfolding lengths_in sum
size_none g c = refl

size-more : (g : Grouping) (m c : ℕ) → data_size g (suc m) c ≡ g.bytes (c % 4) + data_size g m (c / 4)
unfolding lengths_in sum
size-more g m c = refl

-- the loop that adds them up has added i of k
pub record Summed (g : Grouping) (k c i control size : ℕ) : Type 0 where
  pub most : i ≤ k
  pub few : size ≤ 4 * i
  pub is : size + data_size g (k - i) control ≡ data_size g k c

module _ {g : Grouping} {k c i control size : ℕ} (t : Summed g k c i control size) where
  pub summed_turn : {l : ℕ} → i < k → l ≡ g.bytes (control % 4) → l ≤ 4 → Summed g k c (i + 1) (control / 4) (size + l)
  summed_turn {l} h el four =
      let m : k - i ≡ suc (k - (i + 1)) = omega arith in
      let is : size + data_size g (suc (k - (i + 1))) control ≡ data_size g k c = rw m at t.is in
      record { most = omega arith; few = omega (arith, t.few); is = omega (arith, size-more g (k - (i + 1)) control) }

  pub summed-end : k ≤ i → size ≡ data_size g k c
  summed-end all =
      let m : k - i ≡ 0 = omega arith in
      let is : size + data_size g 0 control ≡ data_size g k c = rw m at t.is in
      omega (arith, size_none g control)

-- so many are not there
group-cut : (g : Grouping) (body : List ℕ) (k c from : ℕ) → length body - from < data_size g k c → group_from g body k c from ≡ refused cut_short
unfolding group_from group_in
group-cut g body k c from h = rw (lt-leb (data_size g k c) (length (drop from body)) (omega (arith, length-drop from body)))

-- ---- a group's first field
module _ (g : Grouping) (body : List ℕ) (m c to : ℕ) where
  abbrev others : List ℕ
  others = lengths_in g m (c / 4)

  module _ (l x : ℕ) (el : l ≡ g.bytes (c % 4)) (ex : x ≡ number_of (take l (drop to body))) where
    field-long : data_size g (suc m) c ≤ length body - to → (byte_length x ≡ l → ⊥) → group_from g body (suc m) c to ≡ refused broken
    unfolding group_from group_in lengths_in sum data_in
    field-long there h =
        let fits : l + sum others ≤ length (drop to body) = omega (arith, length-drop to body) in
        rw (← el, ← ex, le-leb (l + sum others) (length (drop to body)) fits, ne_eqb (byte_length x) l h)
        (need-refused (eqb (c / 4 ^ suc m) 0) (λ xs. given (to + (l + sum others), xs)))

    field_next : l ≤ length body - to → byte_length x ≡ l
        → group_from g body (suc m) c to ≡ bind (group_from g body m (c / 4) (to + l)) (λ t. given (t.0, x ∷ t.1))
    unfolding group_from group_in lengths_in sum data_in
    field_next fits e =
        let there : leb (l + sum others) (length (drop to body)) ≡ leb (sum others) (length (drop (to + l) body)) =
        leb-after l (sum others) (length (drop to body)) (omega (arith, length-drop to body))
        ∙ ap (leb (sum others)) (omega (arith, length-drop to body, length-drop (to + l) body)) in
        rw (← el, ← ex, eq-eqb (byte_length x) l e, there, quarter c m, drop-drop l to body, ← (add_assoc to l (sum others)))
        (first-moves (leb (sum others) (length (drop (to + l) body))) (eqb (c / 4 / 4 ^ m) 0) (data_in others (drop (to + l) body)) x (to + l + sum others))

-- after the last field
module _ (g : Grouping) (body : List ℕ) (c to : ℕ) where
  field-used : (c ≡ 0 → ⊥) → group_from g body 0 c to ≡ refused broken
  unfolding group_from group_in lengths_in sum data_in
  field-used h = rw (le-leb 0 (length (drop to body)) (omega arith), div-one c, ne_eqb c 0 h)

  field-none : c ≡ 0 → group_from g body 0 c to ≡ given (to, [])
  unfolding group_from group_in lengths_in sum data_in
  field-none h = rw (le-leb 0 (length (drop to body)) (omega arith), div-one c, eq-eqb c 0 h, add-zero to)

-- ---- field by field
-- the first numbers of a group have been read as `done`, and the group of the m others, from here on, makes the whole
pub record So (g : Grouping) (body : List ℕ) (k c from m control to : ℕ) (done : List ℕ) : Type 0 where
  pub is : bind (group_from g body m control to) (λ t. given (t.0, done ++ t.1)) ≡ group_from g body k c from

pub so-start : (g : Grouping) (body : List ℕ) (k c from : ℕ) → So g body k c from k c from []
so-start g body k c from = record { is = bind-same (group_from g body k c from) }

-- what is left is refused, so the whole is
so-refused : {g : Grouping} {body : List ℕ} {k c from m control to : ℕ} {done : List ℕ} → So g body k c from m control to done
    → group_from g body m control to ≡ refused broken → group_from g body k c from ≡ refused broken
so-refused {done = done} so e = sym so.is ∙ ap (λ (a : Answer (ℕ × List ℕ)). bind a (λ t. given (t.0, done ++ t.1))) e

module _ {g : Grouping} {body : List ℕ} {k c from m control to : ℕ} {done : List ℕ} where
  module _ {l x : ℕ} (el : l ≡ g.bytes (control % 4)) (ex : x ≡ number_of (take l (drop to body))) (so : So g body k c from (suc m) control to done) where
    so-long : data_size g (suc m) control ≤ length body - to → (byte_length x ≡ l → ⊥) → group_from g body k c from ≡ refused broken
    so-long there h = so-refused so (field-long g body m control to l x el ex there h)

    pub so-next : l ≤ length body - to → byte_length x ≡ l → So g body k c from m (control / 4) (to + l) (done ++ (x ∷ []))
    so-next fits e =
        let rest = group_from g body m (control / 4) (to + l) in
        record {
          is =
              bind-cong rest _ _ (λ t h. ap (λ (xs : List ℕ). given (t.0, xs)) (append_assoc done (x ∷ []) t.1))
              ∙ bind-bind rest (λ t. given (t.0, x ∷ t.1)) (λ t. given (t.0, done ++ t.1))
              ∙ ap (λ (a : Answer (ℕ × List ℕ)). bind a (λ t. given (t.0, done ++ t.1))) (sym (field_next g body m control to l x el ex fits e))
              ∙ so.is;
        }

module _ {g : Grouping} {body : List ℕ} {k c from control to : ℕ} {done : List ℕ} (so : So g body k c from 0 control to done) where
  -- an unused field is not 0
  so-used : (control ≡ 0 → ⊥) → group_from g body k c from ≡ refused broken
  so-used h = so-refused so (field-used g body control to h)

  pub so-end : control ≡ 0 → group_from g body k c from ≡ given (to, done)
  so-end h =
      sym so.is
      ∙ ap (λ (a : Answer (ℕ × List ℕ)). bind a (λ t. given (t.0, done ++ t.1))) (field-none g body control to h)
      ∙ ap (λ (xs : List ℕ). given (to, xs)) (append-nil done)

-- ---- many fields at once
-- a group whose first field was read
record FieldIs (g : Grouping) (body : List ℕ) (m c to l x r : ℕ) (xs : List ℕ) : Type 0 where
  pub fits : l ≤ length body - to
  pub fewest : byte_length x ≡ l
  pub others : List ℕ
  pub is : x ∷ others ≡ xs
  pub rest : group_from g body m (c / 4) (to + l) ≡ given (r, others)

field-given : (g : Grouping) (body : List ℕ) (m c to l x r : ℕ) (xs : List ℕ) → l ≡ g.bytes (c % 4) → x ≡ number_of (take l (drop to body))
    → group_from g body (suc m) c to ≡ given (r, xs) → FieldIs g body m c to l x r xs
field-given g body m c to l x r xs el ex e =
    by_order (length body - to) (data_size g (suc m) c)
    (λ cut. absurd (not-given cut_short (r, xs) (sym (group-cut g body (suc m) c to cut) ∙ e)))
    (λ there. by-test (eqb (byte_length x) l)
    (λ t. let few = eqb-true (byte_length x) l t in
    let fits : l ≤ length body - to = omega (arith, size-more g m c) in
    let (t, et, eu) = bind-given (group_from g body m (c / 4) (to + l)) _ (r, xs) (sym (field_next g body m c to l x el ex fits few) ∙ e) in
    let is : (t.0, x ∷ t.1) ≡ (r, xs) = cc in
    record {
      fits = fits;
      fewest = few;
      others = t.1;
      is = ap (λ (u : ℕ × List ℕ). u.1) is;
      rest = et ∙ ap (λ (u : ℕ × List ℕ). given (u.0, t.1)) is;
    })
    (λ f. absurd (not-given broken (r, xs) (sym (field-long g body m c to l x el ex there (eqb-false (byte_length x) l f)) ∙ e))))

-- no field is left: nothing more was read
none-given : (g : Grouping) (body : List ℕ) (c to r : ℕ) (xs : List ℕ) → group_from g body 0 c to ≡ given (r, xs) → (to ≡ r) × ([] ≡ xs)
none-given g body c to r xs e =
    by-test (eqb c 0)
    (λ t. let is : (to, []) ≡ (r, xs) = cc (field-none g body c to (eqb-true c 0 t)) in
    (ap (λ (u : ℕ × List ℕ). u.0) is, ap (λ (u : ℕ × List ℕ). u.1) is))
    (λ f. absurd (not-given broken (r, xs) (sym (field-used g body c to (eqb-false c 0 f)) ∙ e)))

-- j fields at once, which another grouping's say too
pub so-fields : {g : Grouping} {body : List ℕ} {k c from m : ℕ} (h : Grouping) (j n control fields to r : ℕ) (done xs : List ℕ)
    → n ≡ j + m → So g body k c from n control to done → group_from h body j fields to ≡ given (r, xs)
    → lengths_in g j control ≡ lengths_in h j fields → So g body k c from m (control / 4 ^ j) r (done ++ xs)
unfolding lengths_in
so-fields {m = m} h zero n control fields to r done xs en so e same =
    let (end, none) = none-given h _ fields to r xs e in
    let is : n ≡ m = omega arith in
    rw (← end, ← none, append-nil done, div-one control, ← is) so
so-fields {g} {body} {m = m} h (suc j) n control fields to r done xs en so e same =
    let l = g.bytes (control % 4) in
    let x = number_of (take l (drop to body)) in
    let el : l ≡ h.bytes (fields % 4) = cc in
    let others : lengths_in g j (control / 4) ≡ lengths_in h j (fields / 4) = cc in
    let f = field-given h body j fields to l x r xs el refl e in
    let is : n ≡ suc (j + m) = omega arith in
    let so₁ = so-next {l = l} {x = x} refl refl (rw is at so) f.fits f.fewest in
    let so₂ = so-fields h j (j + m) (control / 4) (fields / 4) (to + l) r (done ++ (x ∷ [])) f.others refl so₁ f.rest others in
    rw (quarter control j, ← f.is, ← (append_assoc done (x ∷ []) f.others)) so₂

-- ---- as a unit
-- the fields in the control bytes of the group of k numbers at a position
abbrev pub fields_at : List ℕ → Position → ℕ → ℕ
fields_at body p k = number_of (part body p.head.byte (group_count k))

module _ (g : Layout) (body : List ℕ) (left : ℕ) (p : Position) where
  -- the control bytes are not there
  pub reads_none : {most k m : ℕ} → most ≡ g.group.most → k ≡ min most left → m ≡ k / 4 + min 1 (k % 4) → length body - p.head.byte < m
      → UnitIs (unit_by g body left p) (Err CutShort)
  unfolding group_at group_count
  reads_none {k = k} full many rounded h =
      let e : min g.group.most left ≡ k = sym (many ∙ ap (λ (n : ℕ). min n left) full) in
      let cut : length (drop p.head.byte body) < (k + 3) / 4 = omega (arith, length-drop p.head.byte body) in
      is-refused (rw (e, lt-leb ((k + 3) / 4) (length (drop p.head.byte body)) cut) refl)

-- the control bytes of a group of k numbers are there: c are their fields, and its data begins at an offset
pub record Begun (g : Layout) (body : List ℕ) (left : ℕ) (p : Position) (k c from : ℕ) : Type 0 where
  pub there : group_count k ≤ length body - p.head.byte
  pub many : k ≡ size g left
  pub fields : c ≡ fields_at body p k
  pub start : from ≡ g.from (group_count k) p

-- as many as the numbers, by 4 and rounded up
pub count-is : (n : ℕ) {m : ℕ} → m ≡ n / 4 + min 1 (n % 4) → m ≡ group_count n
unfolding group_count
count-is n e = omega arith

pub begun : (g : Layout) (body : List ℕ) (left : ℕ) (p : Position) {most k m c from : ℕ} → most ≡ g.group.most → k ≡ min most left
    → m ≡ k / 4 + min 1 (k % 4) → m ≤ length body - p.head.byte → c ≡ number_of (part body p.head.byte m) → from ≡ g.from m p → Begun g body left p k c from
begun g body left p {k = k} full many rounded there fields start =
    let e = count-is k rounded in
    record {
      there = rw (← e) there;
      many = many ∙ ap (λ (n : ℕ). min n left) full;
      fields = fields ∙ ap (λ (n : ℕ). number_of (part body p.head.byte n)) e;
      start = start ∙ ap (λ (n : ℕ). g.from n p) e;
    }

module _ {g : Layout} {body : List ℕ} {left : ℕ} {p : Position} where
  -- so the unit is the group of these fields
  unit-begun : {k c from : ℕ} → Begun g body left p k c from
      → unit_by g body left p ≡ bind (group_from g.group body k c from) (λ t. given (g.next (group_count k) p t.0, t.1))
  unfolding group_at
  unit-begun {k} b =
      let there : group_count k ≤ length (drop p.head.byte body) = rw (← (length-drop p.head.byte body)) at b.there in
      rw (← b.many, le-leb (group_count k) (length (drop p.head.byte body)) there, ← b.fields, ← b.start)

  -- but its data is not there
  pub reads-cut : {k c from : ℕ} → Begun g body left p k c from → length body - from < data_size g.group k c → UnitIs (unit_by g body left p) (Err CutShort)
  reads-cut {k} {c} {from} b h = is-refused (unit-begun b ∙ rw (group-cut g.group body k c from h) refl)

-- the loop that reads the group at p, whose data is there, has read i of its k numbers, which stand in the array
pub record Reads (g : Layout) (body : List ℕ) (left : ℕ) (p : Position) (k i control to : ℕ) (numbers : List ℕ) : Type 0 where
  pub begun : Begun g body left p k (fields_at body p k) (g.from (group_count k) p)
  pub short : length body ≤ most_bytes
  pub room : k ≤ unit_places
  pub most : i ≤ k
  pub there : data_size g.group (k - i) control ≤ length body - to
  pub done : List ℕ
  pub counted : length done ≡ i
  pub here : numbers ≡ done ++ replicate {A = ℕ} (unit_places - i) 0
  pub so : So g.group body k (fields_at body p k) (g.from (group_count k) p) (k - i) control to done

pub reads-start : {g : Layout} {body : List ℕ} {left : ℕ} {p : Position} {k c from : ℕ} → Begun g body left p k c from → length body ≤ most_bytes
    → k ≤ unit_places → data_size g.group k c ≤ length body - from → Reads g body left p k 0 c from (replicate {A = ℕ} unit_places 0)
reads-start {g} {body} {p = p} {k} b short room there =
    record {
      begun = record { there = b.there; many = b.many; fields = refl; start = refl };
      short = short;
      room = room;
      most = omega arith;
      there = rw (sub-zero k) there;
      done = [];
      counted = refl;
      here = refl;
      so = rw (b.fields, b.start, sub-zero k) (so-start g.group body k (fields_at body p k) (g.from (group_count k) p));
    }

module _ {g : Layout} {body : List ℕ} {left : ℕ} {p : Position} where
  module _ {k i control to : ℕ} {numbers : List ℕ} (t : Reads g body left p k i control to numbers) where
    group-broken : group_from g.group body k (fields_at body p k) (g.from (group_count k) p) ≡ refused broken → UnitIs (unit_by g body left p) (Err Broken)
    group-broken e = is-refused (unit-begun t.begun ∙ rw e refl)

    more : i < k → So g.group body k (fields_at body p k) (g.from (group_count k) p) (suc (k - suc i)) control to t.done
    more h = let m : k - i ≡ suc (k - suc i) = omega arith in rw m at t.so

    more-there : i < k → data_size g.group (suc (k - suc i)) control ≤ length body - to
    more-there h = let m : k - i ≡ suc (k - suc i) = omega arith in rw m at t.there

    module _ {l : ℕ} (h : i < k) (el : l ≡ g.group.bytes (control % 4)) where
      -- the next number's data is there, and that of the others behind it
      rest-there : l + data_size g.group (k - suc i) (control / 4) ≤ length body - to
      rest-there = omega (arith, more-there h, size-more g.group (k - suc i) control)

      pub reads-fits : l ≤ length body - to
      reads-fits = omega (arith, rest-there)

      module _ {x : ℕ} (ex : x ≡ number_of (take l (drop to body))) where
        pub reads-long : (byte_length x ≡ l → ⊥) → UnitIs (unit_by g body left p) (Err Broken)
        reads-long long = group-broken (so-long el ex (more h) (more-there h) long)

        pub reads-turn : byte_length x ≡ l → Reads g body left p k (i + 1) (control / 4) (to + l) (set numbers i x)
        reads-turn e =
            let room = t.room in
            let places : unit_places - i ≡ suc (unit_places - (i + 1)) = omega arith in
            let here : numbers ≡ t.done ++ (0 ∷ replicate {A = ℕ} (unit_places - (i + 1)) 0) =
            t.here ∙ ap (λ (n : ℕ). t.done ++ replicate {A = ℕ} n 0) places in
            let m : k - (i + 1) ≡ k - suc i = omega arith in
            record {
              begun = t.begun;
              short = t.short;
              room = t.room;
              most = omega arith;
              there = rw m (omega (arith, rest-there));
              done = t.done ++ (x ∷ []);
              counted = length-append t.done (x ∷ []) ∙ ap (λ (n : ℕ). n + 1) t.counted;
              here =
                  ap (λ (ns : List ℕ). set ns i x) here
                  ∙ set_at t.done 0 (replicate {A = ℕ} (unit_places - (i + 1)) 0) x i t.counted
                  ∙ sym (append_assoc t.done (x ∷ []) (replicate {A = ℕ} (unit_places - (i + 1)) 0));
              so = rw m (so-next el ex (more h) reads-fits e);
            }

    module _ (all : k ≤ i) where
      none : So g.group body k (fields_at body p k) (g.from (group_count k) p) 0 control to t.done
      none = let m : k - i ≡ 0 = omega arith in rw m at t.so

      pub reads-used : (control ≡ 0 → ⊥) → UnitIs (unit_by g body left p) (Err Broken)
      reads-used used = group-broken (so-used none used)

      pub reads_end : {q : Position} {m : ℕ} → control ≡ 0 → m ≡ group_count k → q ≡ g.next m p to
          → UnitIs (unit_by g body left p) (Ok (record { next = q; count = k; numbers = numbers }))
      reads_end last em next =
          let is : k ≡ i = omega (arith, t.most) in
          let many : length t.done ≡ k = t.counted ∙ sym is in
          let zeros = replicate {A = ℕ} (unit_places - i) 0 in
          let taken : take k numbers ≡ t.done = ap (take k) t.here ∙ take_at t.done zeros k many in
          is-read (rw (unit-begun t.begun, so-end none last, next, em, taken)) t.room (ap (drop k) t.here ∙ drop_at t.done zeros k many ∙ rw is)

-- a form's units are those of its layout
pub unit-for : (form : Form) (body : List ℕ) (left : ℕ) (p : Position) → (code_for form).unit body left p ≡ unit_by (layout_of form) body left p
unfolding unit_groups unit_stream
unit-for Fours body left p = refl
unit-for Stream body left p = refl
unit-for Batches body left p = refl

pub as-unit : (form : Form) (body : List ℕ) (left : ℕ) (p : Position) {r : Result UnitRead Refusal} → UnitIs (unit_by (layout_of form) body left p) r
    → UnitIs ((code_for form).unit body left p) r
as-unit form body left p u = rw (unit-for form body left p) u
