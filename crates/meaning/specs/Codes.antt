-- The eight codes, each as what it takes to write a list, to read units, to look a number up and to tell the worst size. Strict reading is the same for
-- all.
use Rattle.std.specs.Prelude.{ℕ, ◌+◌, ◌*◌, ◌/◌, Bool, true, ◌&&◌, cond, List, [], leb, eqb, length}
use Rattle.meaning.specs.Answer.{Answer, given, bind, need}
use Rattle.meaning.specs.Limits.{cut_short}
use Rattle.meaning.specs.Lists.{joined}
use Rattle.meaning.specs.Positions.{at_byte, at_control, at_bit}
use Rattle.meaning.specs.Units.{read_units, look_units}
use Rattle.meaning.specs.VByte.{vbyte, unit_vbyte}
use Rattle.meaning.specs.Groups.{Grouping, fours, batches, group_count, write_groups, write_stream, unit_groups, unit_stream}
use Rattle.meaning.specs.G8IU.{write_g8iu, unit_g8iu, joins_g8iu}
use Rattle.meaning.specs.Elias.{write_gamma, write_delta, gamma_word, delta_word, unit_elias, done_elias}
use Rattle.meaning.specs.Direct.{write_direct, worst_direct, parts_fit, unit_direct, done_direct, look_direct}
use Rattle.meaning.specs.declared.Position.{Position}

-- how a number is looked up: unit by unit from the first, or directly, by the body and the place
pub data Way : Type 0 where
  by_units : Way
  directly : (List ℕ → ℕ → Answer ℕ) → Way

pub record Code : Type 0 where
  -- the bytes of a list, and how many they are at worst for n numbers
  pub write : List ℕ → List ℕ
  pub worst : ℕ → ℕ
  -- where the first unit of n numbers begins in a body
  pub start : List ℕ → ℕ → Answer Position
  -- the unit at a position of a body, where so many numbers are still to come
  pub unit : List ℕ → ℕ → Position → Answer (Position × List ℕ)
  -- in reading: whether a unit may follow another, and whether nothing is left over
  pub joins : List ℕ → List ℕ → Bool
  pub done : List ℕ → Position → Bool
  -- how a number is looked up
  pub way : Way

-- a body whose first unit begins with its first byte, and which ends with its last unit
abbrev pub from_first : List ℕ → ℕ → Answer Position
from_first body n = given (at_byte 0)

abbrev pub to_last : List ℕ → Position → Bool
to_last body p = eqb p.head.byte (length body)

abbrev pub always : List ℕ → List ℕ → Bool
always before numbers = true

abbrev pub code_vbyte : Code
code_vbyte =
    record { write = joined vbyte; worst = λ n. 5 * n; start = from_first; unit = unit_vbyte; joins = always; done = to_last; way = by_units }

-- codes 2, 4 and 7: 4n plus n/4 rounded up
abbrev pub worst_groups : ℕ → ℕ
worst_groups n = 4 * n + group_count n

-- codes 2 and 7: groups one behind the other
abbrev pub code_by : Grouping → Code
code_by g =
    record { write = write_groups g; worst = worst_groups; start = from_first; unit = unit_groups g; joins = always; done = to_last; way = by_units }

abbrev pub code_groups : Code
code_groups = code_by fours

abbrev pub code_batches : Code
code_batches = code_by batches

-- n/2 rounded up, then times 9
abbrev pub code_g8iu : Code
code_g8iu =
    record { write = write_g8iu; worst = λ n. (n + 1) / 2 * 9; start = from_first; unit = unit_g8iu; joins = joins_g8iu; done = to_last; way = by_units }

-- Stream VByte's control bytes must fit the body
abbrev pub code_stream : Code
code_stream =
    record {
      write = write_stream;
      worst = worst_groups;
      start = λ body n. need (leb (group_count n) (length body)) cut_short (given (at_control 0 (group_count n)));
      unit = unit_stream;
      joins = always;
      done = λ body p. eqb p.tail.byte (length body);
      way = by_units;
    }

-- 65n/8 and 43n/8, rounded up
abbrev pub code_gamma : Code
code_gamma =
    record {
      write = write_gamma;
      worst = λ n. (65 * n + 7) / 8;
      start = λ body n. given (at_bit 0);
      unit = unit_elias gamma_word;
      joins = always;
      done = done_elias;
      way = by_units;
    }

abbrev pub code_delta : Code
code_delta =
    record {
      write = write_delta;
      worst = λ n. (43 * n + 7) / 8;
      start = λ body n. given (at_bit 0);
      unit = unit_elias delta_word;
      joins = always;
      done = done_elias;
      way = by_units;
    }

-- the parts' ends must fit the body
abbrev pub code_direct : Code
code_direct =
    record {
      write = write_direct;
      worst = worst_direct;
      start = λ body n. need (parts_fit body) cut_short (given (at_bit 0));
      unit = unit_direct;
      joins = always;
      done = done_direct;
      way = directly look_direct;
    }

-- 1 VByte, 2 group of four, 3 G8IU, 4 Stream VByte, 5 gamma, 6 delta, 7 four-wise null suppression, 8 the directly addressed list
abbrev pub last_code : ℕ
last_code = 8

unfoldable pub is_code : ℕ → Bool
is_code c = leb 1 c && leb c last_code

unfoldable pub code_of : ℕ → Code
code_of c =
    cond (eqb c 1) code_vbyte
    (cond (eqb c 2) code_groups
    (cond (eqb c 3) code_g8iu
    (cond (eqb c 4) code_stream
    (cond (eqb c 5) code_gamma
    (cond (eqb c 6) code_delta
    (cond (eqb c 8) code_direct code_batches))))))

-- the strict reading of n numbers from a body
unfoldable pub read_code : Code → List ℕ → ℕ → Answer (List ℕ)
read_code c body n = bind (c.start body n) (read_units (c.unit body) c.joins (c.done body) n [])

-- the number at a place of n, by the code's way
abbrev pub look_by : Code → Way → List ℕ → ℕ → ℕ → Answer ℕ
look_by c by_units body n place = bind (c.start body n) (look_units (c.unit body) n place)
look_by c (directly look) body n place = look body place

unfoldable pub look_code : Code → List ℕ → ℕ → ℕ → Answer ℕ
look_code c body n place = look_by c c.way body n place
