-- Limits, kinds and refusal numbers.
use Rattle.std.specs.Prelude.{ℕ, ◌^◌}

-- numbers are unsigned 32-bit: each is below this
abbrev pub number_limit : ℕ
number_limit = 2 ^ 32

abbrev pub most_columns : ℕ
most_columns = 16

abbrev pub most_numbers : ℕ
most_numbers = 1024

abbrev pub most_bytes : ℕ
most_bytes = 65536

abbrev pub plan_bytes : ℕ
plan_bytes = 15

-- a plan's depth is at most 4, its code counting 1: so many stages may stand over a code
abbrev pub most_stages : ℕ
most_stages = 3

-- no unit of any code holds more numbers
abbrev pub unit_places : ℕ
unit_places = 16

-- kind 0 is any, kind 1 is rising
abbrev pub any : ℕ
any = 0

abbrev pub rising : ℕ
rising = 1

-- the newest edition; the first is 1
abbrev pub last_edition : ℕ
last_edition = 2

-- sheet below 2 or above 65,536 bytes, byte 0 neither 1 nor 2, over 16 columns; in rank and select a slice above 65,536 bytes
abbrev pub no_sheet : ℕ
no_sheet = 1

-- table cut short, kind above 1, count above 1,024, body lengths not filling the rest
abbrev pub bad_table : ℕ
bad_table = 2

-- malformed plan
abbrev pub bad_plan : ℕ
bad_plan = 3

-- plan not passed for its kind
abbrev pub unfit_plan : ℕ
unfit_plan = 4

-- no such column
abbrev pub no_column : ℕ
no_column = 5

-- place not below the count; in rank and select a bit or a one that isn't there
abbrev pub no_place : ℕ
no_place = 6

-- output shorter than the answer, or a written sheet would pass 65,536 bytes
abbrev pub no_room : ℕ
no_room = 7

-- work slice too short
abbrev pub short_work : ℕ
short_work = 8

-- a body that ends before a unit or header of it does
abbrev pub cut_short : ℕ
cut_short = 9

-- writing: a list is not of its kind
abbrev pub fallen : ℕ
fallen = 10

-- another edition than 1 or 2, over 16 orders, kind above 1, count above 1,024, counts not summing to the joined slice
abbrev pub bad_orders : ℕ
bad_orders = 11

-- board rules broken
abbrev pub bad_board : ℕ
bad_board = 12

-- any other fault of a body
abbrev pub broken : ℕ
broken = 13
