-- Rank and select undo each other, over any answers that meet their contracts. Assumes nothing.
use Prim.Native.Nat.{ℕ, ◌*◌, ◌≤◌, ◌<◌}
use mathlib.Core.Path.{◌≡◌, sym, ap, ◌∙◌}
use mathlib.Core.List.{List}
use native.Mathlib.Omega.{arith}
use lib.Dec.{leb}
use lib.ListN.{length, get_or}
use borrow.Author.Tests.{leb-true}
use Rattle.std.specs.Prelude.{Result, Ok}
use Rattle.meaning.specs.Answer.{given}
use Rattle.meaning.specs.Bits.{low_bits}
use Rattle.meaning.specs.Promises.{Ranks, Selects}
use Rattle.meaning.specs.Limits.{most_bytes, no_sheet, no_place}
use Rattle.meaning.specs.Rank.{ones_before, one_at, rank, select}
use Rattle.meaning.specs.declared.Bit.{Bit}
use Rattle.meaning.specs.declared.Refusal.{Refusal}
use Rattle.meaning.proofs.Answers.{need-given}
use Rattle.meaning.proofs.Ranks.{one-is, one-at}
use Rattle.words.proofs.LowBits.{low-length, low_below}
use Rattle.bits.proofs.Asked.{rank-within, select-within}
use Rattle.bits.proofs.Unique.{one_rank, one-select}

module _ (bytes : List ℕ) where
  -- ---- what an answer that is no refusal says
  select-given : (k i : ℕ) → select bytes k ≡ given i → (length bytes ≤ most_bytes) × (one_at no_place k (low_bits bytes) ≡ given i)
  unfolding select
  select-given k i q =
      let (short, found) = need-given (leb (length bytes) most_bytes) no_sheet (one_at no_place k (low_bits bytes)) i q in
      (leb-true (length bytes) most_bytes short, found)

  rank-given : (bit k : ℕ) → rank bytes bit ≡ given k → (length bytes ≤ most_bytes) × (ones_before (low_bits bytes) bit ≡ k)
  unfolding rank
  rank-given bit k q =
      let (short, rest) = need-given (leb (length bytes) most_bytes) no_sheet _ k q in
      let (inside, same) = need-given (leb bit (8 * length bytes)) no_place (given (ones_before (low_bits bytes) bit)) k rest in
      let count : ones_before (low_bits bytes) bit ≡ k = cc in
      (leb-true (length bytes) most_bytes short, count)

  -- ---- select, then rank: the bit that is found is one of the slice's, it is set, and as many ones stand before it as were asked for
  module _ (k : ℕ) (b : Bit) (s : Selects bytes k (Ok b)) where
    pub selected-inside : b.index < 8 * length bytes
    selected-inside =
        let (short, found) = select-given k b.index (sym s) in
        omega (arith, low-length bytes, (one-is no_place k (low_bits bytes) b.index (low_below bytes) found).inside)

    pub selected-set : get_or (low_bits bytes) b.index 0 ≡ 1
    selected-set =
        let (short, found) = select-given k b.index (sym s) in
        (one-is no_place k (low_bits bytes) b.index (low_below bytes) found).set

    pub selected-ranks : Ranks bytes b.index (Ok k)
    selected-ranks =
        let (short, found) = select-given k b.index (sym s) in
        let before = (one-is no_place k (low_bits bytes) b.index (low_below bytes) found).before in
        sym (rank-within bytes b.index short (omega (arith, selected-inside)) ∙ ap (λ (n : ℕ). given n) before)

    pub rank-of-selected : (r : Result ℕ Refusal) → Ranks bytes b.index r → r ≡ Ok k
    rank-of-selected r a = one_rank bytes b.index r (Ok k) a selected-ranks

  -- ---- rank, then select: a bit that is set is found by the ones before it
  module _ (bit k : ℕ) (set : get_or (low_bits bytes) bit 0 ≡ 1) (r : Ranks bytes bit (Ok k)) where
    pub ranked-selects : Selects bytes k (Ok (record { index = bit }))
    ranked-selects =
        let (short, count) = rank-given bit k (sym r) in
        sym (select-within bytes k short ∙ ap (λ (n : ℕ). one_at no_place n (low_bits bytes)) (sym count)
        ∙ one-at no_place (low_bits bytes) bit (low_below bytes) set)

    pub select-of-ranked : (s : Result Bit Refusal) → Selects bytes k s → s ≡ Ok (record { index = bit })
    select-of-ranked s a = one-select bytes k s (Ok (record { index = bit })) a ranked-selects
