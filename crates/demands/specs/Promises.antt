-- What each public operation may answer, in one place: the meaning's contracts and the reader's two. proofs/Contracts.antt has the checker see that these are
-- what is proved of the functions.
pub use Rattle.meaning.specs.Promises.{Judges, Sizes, Fills, Writes, WritesApart, Checks, Reads, Looks, Counts, Fetches, Ranks, Selects}
-- the types of answers, for those who name them beside the contracts
pub use Rattle.std.specs.Prelude.{Result, Ok, Err, Option, None}
pub use Rattle.meaning.specs.declared.Refusal.{Refusal}
pub use Rattle.meaning.specs.declared.Fault.{Fault}
pub use Rattle.reader.specs.Steps.{Standing, opened, answer, standing, moved, refusal_told, Opens, Steps}
pub use Rattle.reader.specs.declared.Reader.{Reader}
