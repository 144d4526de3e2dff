-- What is written of a list in groups.
use Rattle.std.specs.Prelude.{ℕ, ◌+◌, ◌-◌, ◌^◌, ◌≡◌, List, length}
use Rattle.meaning.specs.DataBytes.{data_bytes}
use Rattle.meaning.specs.Groups.{fours, group_count, control}
use Rattle.meaning.specs.Places.{Wrote}
use Rattle.groups.specs.declared.group.Form.{Form}
use Rattle.groups.specs.declared.group.Form.TheVariants.{Fours, Stream, Batches}
use Rattle.groups.specs.declared.put.Fielded.{Fielded}

-- how many bytes its control bytes and its data are, however they stand
abbrev pub size_of : List ℕ → ℕ
size_of xs = group_count (length xs) + length (data_bytes xs)

-- the data of xs stands in an output from an offset on; r tells where it ends, their fields as groups of four have them, and one more than so many fields
-- can be at most
pub record Laid (xs : List ℕ) (at : ℕ) (out out' : List ℕ) (r : Fielded) : Type 0 where
  pub wrote : Wrote (data_bytes xs) at out out' r.end
  pub fields : r.fields ≡ control fours xs
  pub scale : r.scale ≡ 4 ^ length xs

-- fields of groups of four as a code has them, where `scale` is one more than they can be at most: in a batch each is what is left of 3
abbrev pub fields_by : Form → ℕ → ℕ → ℕ
fields_by Fours fields scale = fields
fields_by Stream fields scale = fields
fields_by Batches fields scale = scale - 1 - fields
