-- What the loops that put groups know. Assumes nothing.
use Prim.Native.Nat.{ℕ, ◌+◌, ◌-◌, ◌*◌, ◌/◌, ◌%◌, ◌^◌, ◌≤◌, ◌<◌, min}
use mathlib.Core.Path.{◌≡◌, refl, sym, ap, ap₂, ◌∙◌}
use mathlib.Core.List.{List, [], ◌∷◌, ◌++◌, append_assoc, map, map-append}
use native.Mathlib.Nat.{add-zero, mul-le-mul_left, pow-suc, pow-le-pow_right}
use native.Mathlib.Numerals.{add-one}
use native.Mathlib.Omega.{arith}
use lib.ListN.{length, get_or, take, drop, length-append, length-map}
use lib.Seq.{sets, take-suc, length-take-le, take_all}
use Rattle.meaning.specs.Bytes.{bytes_of}
use Rattle.meaning.specs.DataBytes.{byte_length, fewest, data_bytes}
use Rattle.meaning.specs.Groups.{Grouping, fours, batches, group_count, control_of, control, controls, write_groups, write_stream}
use Rattle.meaning.specs.Limits.{unit_places}
use Rattle.meaning.specs.Places.{Source, Wrote}
use Rattle.meaning.specs.declared.Offset.{Offset}
use Rattle.meaning.specs.declared.Position.{Position}
use Rattle.meaning.proofs.Stores.{sets-append, sets-swap}
use Rattle.words.proofs.DataBytes.{held, data-most, data-rest, data-past, data-append}
use Rattle.leaves.proofs.Putting.{Left, left-start, left-turn, left_end, wrote-before}
use Rattle.groups.specs.Layouts.{layout_of, code_for}
use Rattle.groups.specs.Parts.{size_of, fields_by, Laid}
use Rattle.groups.specs.declared.group.Form.{Form}
use Rattle.groups.specs.declared.group.Form.TheVariants.{Fours, Stream, Batches}
use Rattle.groups.specs.declared.put.Fielded.{Fielded}
use Rattle.groups.proofs.Controls.{Fields, fours-fields, batches-fields, power-more, lengths-of, control-small, mask-of}
use Rattle.groups.proofs.Pieces.{first_piece, groups-next, groups_none, groups-size, controls-split, controls-none, controls-count, controls-bytes, stream-size}

-- ---- the data of a group, and its fields beside it
-- a field more
control-snoc : (ls : List ℕ) (l : ℕ) → control_of fours (ls ++ (l ∷ [])) ≡ control_of fours ls + 4 ^ length ls * (l - 1)
unfolding control_of
control-snoc [] l = omega arith
control-snoc (m ∷ ls) l =
    let e = power-more (length ls) (l - 1) in
    omega (arith, control-snoc ls l)

-- those of the first i numbers, and of one more
fields-none : (xs : List ℕ) → 0 ≡ control fours (take 0 xs)
unfolding control control_of
fields-none xs = refl

fields_snoc : (xs : List ℕ) (i : ℕ) → i < length xs
    → control fours (take (i + 1) xs) ≡ control fours (take i xs) + 4 ^ i * (byte_length (get_or xs i 0) - 1)
unfolding control
fields_snoc xs i h =
    let ys = take i xs in
    let many : length (map byte_length ys) ≡ i = length-map ys byte_length ∙ length-take-le i xs (omega arith) in
    rw (add-one i, take-suc xs i 0 h)
    (ap (control_of fours) (map-append byte_length ys (get_or xs i 0 ∷ []))
    ∙ control-snoc (map byte_length ys) (byte_length (get_or xs i 0))
    ∙ rw many)

-- the data of i numbers has been put, and their fields are known
pub record FieldsSo (xs : List ℕ) (at : ℕ) (out₀ out : List ℕ) (to fields scale i : ℕ) : Type 0 where
  pub most : i ≤ length xs
  pub few : length xs ≤ unit_places
  pub left : Left (data_bytes xs) at out₀ (data_bytes (drop i xs)) out to
  pub fields-are : fields ≡ control fours (take i xs)
  pub scale-is : scale ≡ 4 ^ i
  pub low : fields < scale
  pub small : scale ≤ 4 ^ unit_places

pub fields-start : (xs : List ℕ) (at : ℕ) (out₀ : List ℕ) → length xs ≤ unit_places → FieldsSo xs at out₀ out₀ at 0 1 0
fields-start xs at out₀ few =
    record {
      most = omega arith;
      few = few;
      left = left-start (data_bytes xs) at out₀;
      fields-are = fields-none xs;
      scale-is = refl;
      low = omega arith;
      small = omega arith;
    }

module _ {xs : List ℕ} {at : ℕ} {out₀ out : List ℕ} {to fields scale i : ℕ} (t : FieldsSo xs at out₀ out to fields scale i) (more : i < length xs) where
  -- a field is below 4, so no sum passes the largest number
  pub field-few : (f : ℕ) → f ≡ byte_length (get_or xs i 0) - 1 → scale * f ≤ scale * 3
  field-few f e = mul-le-mul_left scale (omega (arith, (held (get_or xs i 0)).most))

  pub fields-turn : {f : ℕ} {out' : List ℕ} {end : Offset} → Wrote (fewest (get_or xs i 0)) to out out' end → f ≡ byte_length (get_or xs i 0) - 1
      → FieldsSo xs at out₀ out' end.byte (fields + scale * f) (scale * 4) (i + 1)
  fields-turn {f} wrote ef =
      let low = t.low in
      let power : 4 ^ (i + 1) ≡ 4 ^ i * 4 = rw (add-one i) (pow-suc 4 i) in
      let larger : 4 ^ (i + 1) ≤ 4 ^ unit_places = pow-le-pow_right {n = 4} (omega arith) {j = unit_places} (omega (arith, t.few)) in
      record {
        most = omega arith;
        few = t.few;
        left = left-turn t.left (data-rest xs i more) wrote;
        fields-are = sym (fields_snoc xs i more ∙ ap₂ ◌+◌ (sym t.fields-are) (ap₂ ◌*◌ (sym t.scale-is) (sym ef)));
        scale-is = rw t.scale-is (sym power);
        low = omega (arith, field-few f ef);
        small = omega (arith, t.scale-is);
      }

pub fields-end : {xs : List ℕ} {at : ℕ} {out₀ out : List ℕ} {to fields scale i : ℕ} → FieldsSo xs at out₀ out to fields scale i → length xs ≤ i
    → Laid xs at out₀ out (record { end = record { byte = to }; fields = fields; scale = scale })
fields-end {xs} {i = i} t all =
    let is : i ≡ length xs = omega (arith, t.most) in
    record {
      wrote = left_end t.left (data-past xs i all);
      fields = t.fields-are ∙ ap (control fours) (take_all i xs all);
      scale = t.scale-is ∙ ap (λ (n : ℕ). 4 ^ n) is;
    }

-- ---- a group: its data is put, and then its control bytes before it
pub form-fields : (form : Form) → Fields (layout_of form).group
form-fields Fours = fours-fields
form-fields Stream = fours-fields
form-fields Batches = batches-fields

pub fields-low : {xs : List ℕ} {at : ℕ} {out out' : List ℕ} {r : Fielded} → Laid xs at out out' r → r.fields < r.scale
unfolding control
fields-low {xs} t =
    rw (t.fields, t.scale, ← (length-map xs byte_length)) (control-small fours-fields (map byte_length xs) (lengths-of xs))

pub fields-as : (form : Form) {xs : List ℕ} {at : ℕ} {out out' : List ℕ} {r : Fielded} → Laid xs at out out' r
    → fields_by form r.fields r.scale ≡ control (layout_of form).group xs
unfolding control
fields-as Fours t = t.fields
fields-as Stream t = t.fields
fields-as Batches {xs} t =
    let e = mask-of (map byte_length xs) (lengths-of xs) in
    let p = ap (λ (n : ℕ). 4 ^ n) (length-map xs byte_length) in
    omega (arith, t.fields, t.scale)

pub group-laid : {g : Grouping} → Fields g → {xs : List ℕ} {to m c : ℕ} {out out₁ out₂ : List ℕ} {r : Fielded} → Laid xs (to + m) out out₁ r
    → m ≡ group_count (length xs) → c ≡ control g xs → out₂ ≡ sets out₁ to (bytes_of m c) → Wrote (controls g xs ++ data_bytes xs) to out out₂ r.end
group-laid {g} by {xs} {to} t em ec here =
    let many : group_count (length xs) ≡ length (controls g xs) = sym (controls-count g xs) in
    wrote-before (controls g xs) (rw (em, many) at t.wrote) (here ∙ rw (em, ec, controls-bytes by xs))

-- ---- a list, group by group
-- what is still to be put from a position on, put from there on, makes the whole: where the data follows its control bytes, and where they are apart
pub record Apart (list : List ℕ) (at : ℕ) (out₀ rest out : List ℕ) (p : Position) : Type 0 where
  pub here : sets (sets out p.tail.byte (data_bytes rest)) p.head.byte (controls fours rest) ≡ sets out₀ at (write_stream list)
  pub ends : p.tail.byte + length (data_bytes rest) ≡ at + length (write_stream list)
  pub before : p.head.byte + length (controls fours rest) ≤ p.tail.byte

abbrev pub Puts : Form → List ℕ → ℕ → List ℕ → List ℕ → List ℕ → Position → Type 0
Puts Fours list at out₀ rest out p = Left (write_groups fours list) at out₀ (write_groups fours rest) out p.head.byte
Puts Stream list at out₀ rest out p = Apart list at out₀ rest out p
Puts Batches list at out₀ rest out p = Left (write_groups batches list) at out₀ (write_groups batches rest) out p.head.byte

pub record Lays (form : Form) (list : List ℕ) (at : ℕ) (out₀ rest out : List ℕ) (p : Position) : Type 0 where
  pub so : Puts form list at out₀ rest out p

pub lays-start : (form : Form) (list : List ℕ) (at m : ℕ) (out₀ : List ℕ) → m ≡ group_count (length list)
    → Lays form list at out₀ list out₀ ((layout_of form).first m at)
unfolding write_stream
lays-start Fours list at m out₀ em = record { so = left-start (write_groups fours list) at out₀ }
lays-start Batches list at m out₀ em = record { so = left-start (write_groups batches list) at out₀ }
lays-start Stream list at m out₀ em =
    let cs = controls fours list in
    let ds = data_bytes list in
    let count = controls-count fours list in
    let e : at + m ≡ at + length cs = omega arith in
    record {
      so = record {
        here = rw e (sets-swap cs ds out₀ at (at + length cs) (omega arith) ∙ sets-append cs ds out₀ at);
        ends = omega (arith, length-append cs ds);
        before = omega arith;
      };
    }

-- a turn puts the data of a group and its control bytes before it
groups-turn : {g : Grouping} → Fields g → (ys zs : List ℕ) {whole : List ℕ} {at : ℕ} {out₀ rest out out' : List ℕ} {to : ℕ} {end : Offset}
    → Left whole at out₀ (write_groups g rest) out to → rest ≡ ys ++ zs → length ys ≡ min g.most (length rest) → 0 < length rest
    → Wrote (controls g ys ++ data_bytes ys) to out out' end → Left whole at out₀ (write_groups g zs) out' end.byte
groups-turn {g} by ys zs {rest = rest} left split many some wrote =
    let (front, back) = first_piece g.most ys zs (many ∙ ap (min g.most) (ap length split ∙ length-append ys zs)) in
    left-turn left
    (groups-next by rest some
    ∙ rw (split, front, back) (sym (append_assoc (controls g ys) (data_bytes ys) (write_groups g zs)))) wrote

apart-turn : (ys zs : List ℕ) {list : List ℕ} {at : ℕ} {out₀ rest out out₁ out₂ : List ℕ} {p : Position} {end : Offset}
    → Apart list at out₀ rest out p → rest ≡ ys ++ zs → length ys ≡ min 4 (length rest) → 0 < length rest
    → Wrote (data_bytes ys) p.tail.byte out out₁ end → out₂ ≡ sets out₁ p.head.byte (controls fours ys)
    → Apart list at out₀ zs out₂ ((layout_of Stream).next (length (controls fours ys)) p end.byte)
apart-turn ys zs {list} {at} {out₀} {rest} {out} {out₁} {p = p} {end} t split many some wrote here =
    let h = p.head.byte in
    let tail = p.tail.byte in
    let cy = controls fours ys in
    let cz = controls fours zs in
    let dy = data_bytes ys in
    let dz = data_bytes zs in
    let (front, back) = first_piece 4 ys zs (many ∙ ap (min 4) (ap length split ∙ length-append ys zs)) in
    let both = ap₂ (λ (l m : List ℕ). controls fours l ++ controls fours m) front back in
    let cs : controls fours rest ≡ cy ++ cz = rw split (controls-split fours (ys ++ zs) ∙ both) in
    let ds : data_bytes rest ≡ dy ++ dz = ap data_bytes split ∙ data-append ys zs in
    let long = ap length cs ∙ length-append cy cz in
    let size = ap length ds ∙ length-append dy dz in
    let before = t.before in
    let ends = t.ends in
    let so : sets out tail (dy ++ dz) ≡ sets out₁ end.byte dz = sym (sets-append dy dz out tail) ∙ rw (wrote.here, wrote.ends) in
    record {
      here =
          rw here (ap (λ (o : List ℕ). sets o (h + length cy) cz) (sym (sets-swap cy dz out₁ h end.byte (omega (arith, wrote.ends))))
          ∙ sets-append cy cz (sets out₁ end.byte dz) h
          ∙ rw (← so, ← cs, ← ds)) ∙ t.here;
      ends = omega (arith, wrote.ends);
      before = omega (arith, wrote.ends);
    }

pub lays-turn : (form : Form) (ys zs : List ℕ) {list : List ℕ} {at m c : ℕ} {out₀ rest out out₁ out₂ : List ℕ} {p : Position} {r : Fielded}
    → Lays form list at out₀ rest out p → rest ≡ ys ++ zs → length ys ≡ min (layout_of form).group.most (length rest) → 0 < length rest
    → m ≡ group_count (length ys) → c ≡ control (layout_of form).group ys → Laid ys ((layout_of form).from m p) out out₁ r
    → out₂ ≡ sets out₁ p.head.byte (bytes_of m c) → Lays form list at out₀ zs out₂ ((layout_of form).next m p r.end.byte)
lays-turn Fours ys zs t split many some em ec laid here =
    record { so = groups-turn fours-fields ys zs t.so split many some (group-laid fours-fields laid em ec here) }
lays-turn Batches ys zs t split many some em ec laid here =
    record { so = groups-turn batches-fields ys zs t.so split many some (group-laid batches-fields laid em ec here) }
lays-turn Stream ys zs t split many some em ec laid here =
    let e = em ∙ sym (controls-count fours ys) in
    record { so = rw e (apart-turn ys zs t.so split many some laid.wrote (here ∙ rw (em, ec, controls-bytes fours-fields ys))) }

ends-at : {xs : List ℕ} {at to : ℕ} {out out' : List ℕ} {r : Offset} → Wrote xs at out out' (record { byte = to }) → r.byte ≡ to → Wrote xs at out out' r
ends-at w e = record { ends = e ∙ w.ends; here = w.here }

nothing : {rest : List ℕ} → rest ≡ [] → (controls fours rest ≡ []) × (data_bytes rest ≡ [])
nothing none = (ap (controls fours) none ∙ controls-none fours, ap data_bytes none ∙ data-past [] 0 (omega arith))

pub lays-end : (form : Form) {list : List ℕ} {at : ℕ} {out₀ rest out : List ℕ} {p : Position} {r : Offset} → Lays form list at out₀ rest out p → rest ≡ []
    → r.byte ≡ (layout_of form).from 0 p → Wrote ((code_for form).write list) at out₀ out r
lays-end Fours {p = p} t none e = ends-at (left_end t.so (ap (write_groups fours) none ∙ groups_none fours-fields)) (e ∙ add-zero p.head.byte)
lays-end Batches {p = p} t none e = ends-at (left_end t.so (ap (write_groups batches) none ∙ groups_none batches-fields)) (e ∙ add-zero p.head.byte)
lays-end Stream {p = p} t none e =
    let (cs, ds) = nothing none in
    record { ends = e ∙ sym (add-zero p.tail.byte) ∙ rw ds at t.so.ends; here = rw (cs, ds) at t.so.here }

-- how long what is written is
pub size_is : (form : Form) (list : List ℕ) → length ((code_for form).write list) ≡ size_of list
size_is Fours list = groups-size fours-fields list
size_is Stream list = stream-size list
size_is Batches list = groups-size batches-fields list

size-most : (form : Form) (list : List ℕ) → length ((code_for form).write list) ≤ 5 * length list
unfolding group_count
size-most form list = omega (arith, size_is form list, data-most list)

-- no offset passes the largest number where a group of n numbers is put next
room : (form : Form) {list : List ℕ} {at : ℕ} {out₀ rest out : List ℕ} {p : Position} → Lays form list at out₀ rest out p → (m : ℕ)
    → (p.head.byte ≤ at + 5 * length list) × ((layout_of form).from m p ≤ at + 5 * length list + m)
room Fours {list} t m = let most = size-most Fours list in (omega (arith, t.so.ends), omega (arith, t.so.ends))
room Stream {list} t m = let most = size-most Stream list in (omega (arith, t.so.ends, t.so.before), omega (arith, t.so.ends))
room Batches {list} t m = let most = size-most Batches list in (omega (arith, t.so.ends), omega (arith, t.so.ends))

pub lays-room : (form : Form) {list : List ℕ} {at : ℕ} {out₀ rest out : List ℕ} {p : Position} → Lays form list at out₀ rest out p → Source list at
    → (n : ℕ) {m : ℕ} → n ≤ unit_places → m ≡ n / 4 + min 1 (n % 4)
    → (p.head.byte + m < 2 ^ 64) × ((layout_of form).from m p + 4 * n + 4 < 2 ^ 64)
lays-room form t source n {m} few rounded = let (head, tail) = room form t m in let short = source.short in (omega arith, omega arith)
