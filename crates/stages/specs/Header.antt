-- A run stage's header, as it is told.
use Rattle.std.specs.Prelude.{ℕ, ◌+◌, List}
use Rattle.meaning.specs.Answer.{Answer, given, bind}
use Rattle.meaning.specs.Bytes.{word_at}
use Rattle.meaning.specs.Stages.{run_header}
use Rattle.stages.specs.declared.header.Header.{Header}

-- how many runs, and where the values body ends
unfoldable pub header_in : ℕ → List ℕ → Answer (ℕ × ℕ)
header_in n body = bind (run_header n body) (λ h. given (word_at body 0, 8 + word_at body 4))

abbrev pub header_told : Header → ℕ × ℕ
header_told h = (h.runs, h.end.byte)
