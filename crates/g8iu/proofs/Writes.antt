-- Writing a list block by block: what is still to be written, put from here on, makes the whole. Assumes nothing.
use Prim.Native.Nat.{ℕ, ◌+◌, ◌-◌, ◌^◌, ◌≤◌, ◌<◌}
use mathlib.Core.Path.{◌≡◌, sym, ap, ◌∙◌}
use mathlib.Core.Bool.{false}
use mathlib.Core.List.{List, [], ◌∷◌, ◌++◌}
use native.Mathlib.Omega.{arith}
use lib.ListN.{length, get_or, take, drop, length-drop, take-append-drop, drop_of_length-le}
use lib.Seq.{take_all, drop-cons, length-take-le}
use Rattle.meaning.specs.DataBytes.{data_bytes}
use Rattle.meaning.specs.G8IU.{fits, block, write_g8iu}
use Rattle.meaning.specs.Places.{Source, Wrote}
use Rattle.meaning.proofs.Tests.{by_order}
use Rattle.leaves.proofs.Putting.{Left, left-start, left-turn, left_end}
use Rattle.g8iu.specs.Blocks.{PutBlock}
use Rattle.g8iu.proofs.Blocks.{Stops, block-length, write-none, write-next}

pub record WriteSo (list : List ℕ) (at : ℕ) (out₀ out rest : List ℕ) (to : ℕ) : Type 0 where
  pub source : Source rest to
  pub left : Left (write_g8iu list) at out₀ (write_g8iu rest) out to

pub write-start : {list : List ℕ} {at : ℕ} (out : List ℕ) → Source list at → WriteSo list at out out list at
write-start {list} {at} out source = record { source = source; left = left-start (write_g8iu list) at out }

-- a block that goes on to the next place
stops_at : (b list : List ℕ) (r : ℕ) → (r < length list → fits b (get_or list r 0) ≡ false) → Stops b (drop r list)
stops_at b list r s = by_order r (length list) (λ l. rw (drop-cons list r 0 l) (s l)) (λ l. rw (drop_of_length-le list l) tt)

write-block : (b rest : List ℕ) → 0 < length b → length (data_bytes b) ≤ 8 → Stops b rest → write_g8iu (b ++ rest) ≡ block b ++ write_g8iu rest
write-block [] rest some fitted stops = absurd (omega arith)
write-block (x ∷ more) rest some fitted stops = write-next x more rest fitted stops

none-left : (rest : List ℕ) → length rest ≡ 0 → write_g8iu rest ≡ []
none-left [] e = write-none
none-left (x ∷ rest) e = absurd (omega arith)

module _ {list : List ℕ} {at : ℕ} {out₀ out rest : List ℕ} {to : ℕ} (so : WriteSo list at out₀ out rest to) where
  -- what putting a block asks
  pub write-asks : 0 < length rest → (0 < length rest) × (to + 9 < 2 ^ 63)
  write-asks h = (h, omega (arith, so.source.short))

  module _ {r : ℕ} {out' : List ℕ} (p : PutBlock rest to out out' r) where
    -- the rest as a slice of what is left
    slice : take (length rest - r) (drop r rest) ≡ drop r rest
    slice = take_all (length rest - r) (drop r rest) (omega (arith, length-drop r rest))

    pub write-less : length (take (length rest - r) (drop r rest)) < length rest
    write-less = rw slice (omega (arith, length-drop r rest, p.some, p.within))

    written : write_g8iu rest ≡ block (take r rest) ++ write_g8iu (drop r rest)
    written =
        let n = length-take-le r rest p.within in
        ap write_g8iu (sym (take-append-drop r rest))
        ∙ write-block (take r rest) (drop r rest) (omega (arith, p.some)) p.fitted (stops_at (take r rest) rest r p.stops)

    pub write-turn : WriteSo list at out₀ out' (take (length rest - r) (drop r rest)) (to + 9)
    write-turn =
        let nine = block-length (take r rest) p.fitted in
        rw slice
        (record {
          source = record { short = omega (arith, so.source.short, length-drop r rest, p.some, p.within) };
          left = left-turn so.left written (record { ends = ap (λ (n : ℕ). to + n) (sym nine); here = p.here });
        })

  pub write-end : length rest ≡ 0 → Wrote (write_g8iu list) at out₀ out (record { byte = to })
  write-end e = left_end so.left (none-left rest e)
