-- What a codeword's answer says, and the codewords of either code.
use Rattle.std.specs.Prelude.{ℕ, List}
use Rattle.meaning.specs.Answer.{Answer}
use Rattle.meaning.specs.Codes.{Code, code_gamma, code_delta}
use Rattle.meaning.specs.Elias.{gamma_bits, delta_bits, gamma_word, delta_word}
use Rattle.elias.specs.declared.word.Form.{Form}
use Rattle.elias.specs.declared.word.Form.TheVariants.{Gamma, Delta}
use Rattle.elias.specs.declared.word.Codeword.{Codeword}

-- the value v, and how many bits it takes
abbrev pub codeword_told : Codeword → ℕ × ℕ
codeword_told w = (w.value, w.size)

-- v's codeword, how a codeword is read, and the code
abbrev pub bits_of_word : Form → ℕ → List ℕ
bits_of_word Gamma v = gamma_bits v
bits_of_word Delta v = delta_bits v

abbrev pub word_of : Form → List ℕ → Answer (ℕ × ℕ)
word_of Gamma l = gamma_word l
word_of Delta l = delta_word l

abbrev pub code_with : Form → Code
code_with Gamma = code_gamma
code_with Delta = code_delta
