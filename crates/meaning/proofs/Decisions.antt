-- The other marked examples, the decisions of docs/DECISIONS.md (d1 to d13; p1, p3, p4, p5 for requests P1, P3, P4, P5) and the order of refusals, computed.
-- Assumes nothing.
use Prim.Native.Nat.{ℕ}
use mathlib.Core.Path.{◌≡◌, refl}
use mathlib.Core.List.{List, [], ◌∷◌, ◌++◌}
use lib.ListN.{replicate}
use Rattle.meaning.specs.Answer.{given, refused, passed, blamed}
use Rattle.meaning.specs.Bytes.{word}
use Rattle.meaning.specs.Plan.{code, reference, differences, runs, plan_of, judge, worst_size}
use Rattle.meaning.specs.Rank.{rank, select}
use Rattle.meaning.specs.Stages.{write, read, look}
use Rattle.meaning.specs.Operations.{write_apart, check, read_sheet, look_sheet, fetch, call, board_verdict, count_board, no_tally}
use Rattle.meaning.specs.Texts.{text, digits, all_work, listing_text, board_text}
use Rattle.meaning.proofs.Computed.{meaning}

-- an entry whose plan is VByte
abbrev entry : ℕ → ℕ → ℕ → List ℕ
entry kind count size = kind ∷ 1 ∷ replicate 14 0 ++ (word count ++ word size)

-- 80 00: the last byte is not 0 unless alone
vbyte-last-zero : read (code 1) (0x80 ∷ 0x00 ∷ []) 1 ≡ refused 13
unfolding meaning
vbyte-last-zero = refl

-- a fifth byte of 10
vbyte-fifth : read (code 1) (0xff ∷ 0xff ∷ 0xff ∷ 0xff ∷ 0x10 ∷ []) 1 ≡ refused 13
unfolding meaning
vbyte-fifth = refl

-- ending 01 02: the reference is not the least
reference-not-least : read (plan_of (16 ∷ 1 ∷ replicate 13 0)) (0xe8 ∷ 0x03 ∷ 0 ∷ 0 ∷ 1 ∷ 2 ∷ []) 2 ≡ refused 13
unfolding meaning
reference-not-least = refl

-- 16 16 16 1 is well formed
four-deep : judge 0 (16 ∷ 16 ∷ 16 ∷ 1 ∷ replicate 11 0) ≡ given tt
unfolding meaning
four-deep = refl

-- 16 16 16 16 is 3
five-deep : judge 0 (16 ∷ 16 ∷ 16 ∷ 16 ∷ replicate 11 0) ≡ refused 3
unfolding meaning
five-deep = refl

-- 17 1 under kind 0 is 4
differences-of-any : judge 0 (17 ∷ 1 ∷ replicate 13 0) ≡ refused 4
unfolding meaning
differences-of-any = refl

-- sheet 01 00 passes
empty-sheet : check (1 ∷ 0 ∷ []) 0 ≡ passed
unfolding meaning
empty-sheet = refl

-- 15 zeros mean the default only in an order
d1-zeros : judge 0 (replicate 15 0) ≡ refused 3
unfolding meaning
d1-zeros = refl

-- in an order they are 17 1 for kind 1
d1-order : write_apart 1 (1 ∷ []) (replicate 15 0) (3 ∷ []) (5 ∷ 5 ∷ 133 ∷ []) 21 30
    ≡ given (1 ∷ 1 ∷ 1 ∷ 17 ∷ 1 ∷ (replicate 13 0 ++ (3 ∷ 0 ∷ 0 ∷ 0 ∷ 4 ∷ 0 ∷ 0 ∷ 0 ∷ 5 ∷ 0 ∷ 128 ∷ 1 ∷ [])))
unfolding meaning
d1-order = refl

-- a plan of another column refuses before 5
d2-all-plans : fetch (1 ∷ 2 ∷ entry 0 0 0 ++ (0 ∷ 9 ∷ replicate 22 0)) 7 ≡ refused 3
unfolding meaning
d2-all-plans = refl

-- 17 9 under kind 0 is 3
d3-malformed-first : judge 0 (17 ∷ 9 ∷ replicate 13 0) ≡ refused 3
unfolding meaning
d3-malformed-first = refl

-- asked alone, a kind above 1 is 11 before 3
d3-kind-first : judge 2 (9 ∷ replicate 14 0) ≡ refused 11
unfolding meaning
d3-kind-first = refl

-- asked alone, 3 before 11
worst-malformed-first : worst_size (9 ∷ replicate 14 0) 1025 ≡ refused 3
unfolding meaning
worst-malformed-first = refl

-- n is at most 1,024
worst-most : worst_size (18 ∷ 4 ∷ 5 ∷ replicate 12 0) 1024 ≡ given 12680
unfolding meaning
worst-most = refl

worst-above : worst_size (18 ∷ 4 ∷ 5 ∷ replicate 12 0) 1025 ≡ refused 11
unfolding meaning
worst-above = refl

-- 7 compares with the exact size: 28 bytes fit, 27 do not
d4-exact : write_apart 1 (0 ∷ []) (1 ∷ replicate 14 0) (2 ∷ []) (1 ∷ 2 ∷ []) 14 27 ≡ refused 7
unfolding meaning
d4-exact = refl

-- plan 18 16 1 1 of an empty list
d5-empty-runs : write (plan_of (18 ∷ 16 ∷ 1 ∷ 1 ∷ replicate 11 0)) [] ≡ 0 ∷ 0 ∷ 0 ∷ 0 ∷ 4 ∷ 0 ∷ 0 ∷ 0 ∷ 0 ∷ 0 ∷ 0 ∷ 0 ∷ []
unfolding meaning
d5-empty-runs = refl

-- a nonzero reference of an empty list
d5-empty-reference : read (plan_of (16 ∷ 1 ∷ replicate 13 0)) (1 ∷ 0 ∷ 0 ∷ 0 ∷ []) 0 ≡ refused 13
unfolding meaning
d5-empty-reference = refl

-- a lookup examines the unused fields of its own unit
d6-unused-field : look (code 2) (0x04 ∷ 7 ∷ []) 1 0 ≡ refused 13
unfolding meaning
d6-unused-field = refl

-- but no spare bits: gamma 0, then ones
d6-spare-bits : look (code 5) (0xff ∷ []) 1 0 ≡ given 0
unfolding meaning
d6-spare-bits = refl

-- all control bytes of Stream VByte must fit
d6-controls : look (code 4) (0 ∷ []) 5 0 ≡ refused 9
unfolding meaning
d6-controls = refl

-- a block that leaves room for the next number is a fault to reading
d7-room-read : read (code 3) (224 ∷ 1 ∷ 2 ∷ 3 ∷ 4 ∷ 5 ∷ 0 ∷ 0 ∷ 0 ∷ 254 ∷ 6 ∷ 0 ∷ 0 ∷ 0 ∷ 0 ∷ 0 ∷ 0 ∷ 0 ∷ []) 6 ≡ refused 13
unfolding meaning
d7-room-read = refl

-- and a lookup never asks
d7-room-looked-past : look (code 3) (224 ∷ 1 ∷ 2 ∷ 3 ∷ 4 ∷ 5 ∷ 0 ∷ 0 ∷ 0 ∷ 254 ∷ 6 ∷ 0 ∷ 0 ∷ 0 ∷ 0 ∷ 0 ∷ 0 ∷ 0 ∷ []) 6 5 ≡ given 6
unfolding meaning
d7-room-looked-past = refl

-- reference adds only at the place asked
d8-place-1 : look (plan_of (16 ∷ 1 ∷ replicate 13 0)) (0xff ∷ 0xff ∷ 0xff ∷ 0xff ∷ 1 ∷ 0 ∷ []) 2 1 ≡ given 4294967295
unfolding meaning
d8-place-1 = refl

d8-place-0 : look (plan_of (16 ∷ 1 ∷ replicate 13 0)) (0xff ∷ 0xff ∷ 0xff ∷ 0xff ∷ 1 ∷ 0 ∷ []) 2 0 ≡ refused 13
unfolding meaning
d8-place-0 = refl

-- a list of kind 1 that falls is a fault, in column 1
d9-fall : check (1 ∷ 2 ∷ entry 0 2 2 ++ (entry 1 2 2 ++ (2 ∷ 1 ∷ 2 ∷ 1 ∷ []))) 16 ≡ blamed 13 1
unfolding meaning
d9-fall = refl

-- after a refused opening every call answers 1
d10-refused-opening : call (1 ∷ 1 ∷ entry 0 1 1 ++ (7 ∷ [])) 1 3 ≡ refused 1
unfolding meaning
d10-refused-opening = refl

-- after a refused call that refusal again
d10-again : call (1 ∷ 1 ∷ entry 0 1 1 ++ (7 ∷ [])) 0 3 ≡ refused 6
unfolding meaning
d10-again = refl

-- counts of 0 pass with zero tallies
d11-empty-board : count_board (1 ∷ 2 ∷ entry 1 0 0 ++ entry 0 0 0) 0 ≡ (passed, no_tally)
unfolding meaning
d11-empty-board = refl

-- 0 is passed, 124 killed, any other of 1 to 255 failed, 256 never ended: of the endings 0, 1, 123, 124, 125, 255, 256, 0
d11-endings : count_board (1 ∷ 2 ∷ entry 1 8 8 ++ (entry 0 8 10
    ++ (1 ∷ 2 ∷ 3 ∷ 4 ∷ 5 ∷ 6 ∷ 7 ∷ 8 ∷ 0 ∷ 1 ∷ 123 ∷ 124 ∷ 125 ∷ 255 ∷ 1 ∷ 128 ∷ 2 ∷ 0 ∷ []))) 64
    ≡ (passed, record { passed = 2; failed = 4; killed = 1; unended = 1 })
unfolding meaning
d11-endings = refl

-- equal job numbers are 12
d11-equal-jobs : board_verdict (1 ∷ 2 ∷ entry 1 2 2 ++ (entry 0 2 2 ++ (3 ∷ 3 ∷ 0 ∷ 0 ∷ []))) 16 ≡ blamed 12 0
unfolding meaning
d11-equal-jobs = refl

-- the listing of no columns
d12-no-columns : listing_text (1 ∷ 0 ∷ []) ≡ text "columns 0\nend\n"
unfolding meaning
d12-no-columns = refl

-- one end after the last column
d12-two : listing_text (1 ∷ 2 ∷ entry 1 1 1 ++ (entry 0 1 2 ++ (7 ∷ 128 ∷ 2 ∷ [])))
    ≡ text "columns 2\ncolumn 0 rising plan 1 count 1 bytes 1\n0 7\ncolumn 1 any plan 1 count 1 bytes 2\n0 256\nend\n"
unfolding meaning
d12-two = refl

-- the refusal's line alone, with the column at fault
d12-fault : listing_text (1 ∷ 2 ∷ entry 1 1 1 ++ (entry 0 1 2 ++ (7 ∷ 128 ∷ 0 ∷ []))) ≡ text "refused 13 column 1\n"
unfolding meaning
d12-fault = refl

-- input of 65,537 bytes is 1
d12-over : listing_text (1 ∷ 0 ∷ replicate 65535 0) ≡ text "refused 1 column 0\n"
unfolding meaning
d12-over = refl

-- a line for each tally, of the endings 0, 0, 0, 1, 124, 255, 256
d12-board : board_text (1 ∷ 2 ∷ entry 1 7 7 ++ (entry 0 7 9 ++ (1 ∷ 2 ∷ 3 ∷ 4 ∷ 5 ∷ 6 ∷ 7 ∷ 0 ∷ 0 ∷ 0 ∷ 1 ∷ 124 ∷ 255 ∷ 1 ∷ 128 ∷ 2 ∷ [])))
    ≡ text "passed 3\nfailed 2\nkilled 1\nunended 1\n"
unfolding meaning
d12-board = refl

-- or the refusal's line, column 0 for 12
d12-no-board : board_text (1 ∷ 0 ∷ []) ≡ text "refused 12 column 0\n"
unfolding meaning
d12-no-board = refl

-- the programs' work is enough for 1,024 numbers
d12-work : check (1 ∷ 1 ∷ entry 0 1024 1024 ++ replicate 1024 7) all_work ≡ passed
unfolding meaning
d12-work = refl

-- zero takes one digit, the largest number ten
d12-digits : digits 0 ++ digits 4294967295 ≡ text "04294967295"
unfolding meaning
d12-digits = refl

-- 8 before 7 before 9
d13-work-first : read_sheet (1 ∷ 1 ∷ entry 0 1 1 ++ (128 ∷ [])) 0 6 0 ≡ refused 8
unfolding meaning
d13-work-first = refl

d13-room-next : read_sheet (1 ∷ 1 ∷ entry 0 1 1 ++ (128 ∷ [])) 0 7 0 ≡ refused 7
unfolding meaning
d13-room-next = refl

d13-fault-last : read_sheet (1 ∷ 1 ∷ entry 0 1 1 ++ (128 ∷ [])) 0 7 1 ≡ refused 9
unfolding meaning
d13-fault-last = refl

-- place 1 of 1 is 6
no_place : look_sheet (1 ∷ 1 ∷ entry 0 1 1 ++ (7 ∷ [])) 0 1 ≡ refused 6
unfolding meaning
no_place = refl

-- a count above 1,024 is 2
count-above : check (1 ∷ 1 ∷ entry 0 1025 0) 0 ≡ blamed 2 0
unfolding meaning
count-above = refl

-- over 16 columns is 1
seventeen : check (1 ∷ 17 ∷ []) 0 ≡ blamed 1 0
unfolding meaning
seventeen = refl

-- writing: a list of kind 1 falls, before 8
falls-10 : write_apart 1 (1 ∷ []) (replicate 15 0) (2 ∷ []) (2 ∷ 1 ∷ []) 0 0 ≡ refused 10
unfolding meaning
falls-10 = refl

-- counts not summing to the joined slice, before the plan
orders-11 : write_apart 1 (0 ∷ []) (9 ∷ replicate 14 0) (2 ∷ []) (1 ∷ []) 14 99 ≡ refused 11
unfolding meaning
orders-11 = refl

-- nor does a code below it make depth 5 well formed
five-deep-code : judge 0 (16 ∷ 16 ∷ 16 ∷ 16 ∷ 1 ∷ replicate 10 0) ≡ refused 3
unfolding meaning
five-deep-code = refl

-- a nonzero byte after the end is 3
after-the-end : judge 0 (1 ∷ 0 ∷ 1 ∷ replicate 12 0) ≡ refused 3
unfolding meaning
after-the-end = refl

-- call 1 answers as a lookup at place 1
second_call : call (1 ∷ 1 ∷ 0 ∷ 1 ∷ (replicate 14 0 ++ (2 ∷ 0 ∷ 0 ∷ 0 ∷ 2 ∷ 0 ∷ 0 ∷ 0 ∷ 7 ∷ 9 ∷ []))) 0 1 ≡ given 9
unfolding meaning
second_call = refl

-- ---- request P1: a lookup takes the batches up to its place's, with all their numbers and unused fields, and looks at nothing after
p1-second-batch-cut : look (code 7) (replicate 4 255 ++ replicate 16 9) 17 15 ≡ given 9
unfolding meaning
p1-second-batch-cut = refl

p1-later-in-batch : look (code 7) (0xbf ∷ 1 ∷ 2 ∷ 3 ∷ 4 ∷ 0 ∷ []) 4 0 ≡ refused 13
unfolding meaning
p1-later-in-batch = refl

p1-unused-field : look (code 7) (0x0b ∷ 0 ∷ []) 1 0 ≡ refused 13
unfolding meaning
p1-unused-field = refl

p1-left-over : read (code 7) (0x03 ∷ 0 ∷ 0 ∷ []) 1 ≡ refused 13
unfolding meaning
p1-left-over = refl

-- ---- request P3: kind 1 by the edition
p3-empty : check (2 ∷ 0 ∷ []) 0 ≡ passed
unfolding meaning
p3-empty = refl

-- an edition that is neither 1 nor 2 is no sheet
p3-third-edition : check (3 ∷ 0 ∷ []) 0 ≡ blamed 1 0
unfolding meaning
p3-third-edition = refl

p3-no-edition : check (0 ∷ 0 ∷ []) 0 ≡ blamed 1 0
unfolding meaning
p3-no-edition = refl

-- equal neighbours pass in edition 1, and are a fault in edition 2
p3-equal-pass : check (1 ∷ 1 ∷ entry 1 2 2 ++ (3 ∷ 3 ∷ [])) 16 ≡ passed
unfolding meaning
p3-equal-pass = refl

p3-equal-fault : check (2 ∷ 1 ∷ entry 1 2 2 ++ (3 ∷ 3 ∷ [])) 16 ≡ blamed 13 0
unfolding meaning
p3-equal-fault = refl

p3-equal-read : read_sheet (2 ∷ 1 ∷ entry 1 2 2 ++ (3 ∷ 3 ∷ [])) 0 14 2 ≡ refused 13
unfolding meaning
p3-equal-read = refl

-- numbers that are each above the one before pass, and so do equal ones of kind 0
p3-above-pass : check (2 ∷ 1 ∷ entry 1 2 2 ++ (3 ∷ 4 ∷ [])) 16 ≡ passed
unfolding meaning
p3-above-pass = refl

p3-any-pass : check (2 ∷ 1 ∷ entry 0 2 2 ++ (3 ∷ 3 ∷ [])) 16 ≡ passed
unfolding meaning
p3-any-pass = refl

-- a lookup asks no kind
p3-lookup : look_sheet (2 ∷ 1 ∷ entry 1 2 2 ++ (3 ∷ 3 ∷ [])) 0 1 ≡ given 3
unfolding meaning
p3-lookup = refl

-- inner lists are not asked: 5, 6, 7 by its differences 5, 1, 1
p3-inner : check (2 ∷ 1 ∷ 1 ∷ 17 ∷ 1 ∷ replicate 13 0 ++ (3 ∷ 0 ∷ 0 ∷ 0 ∷ 3 ∷ 0 ∷ 0 ∷ 0 ∷ 5 ∷ 1 ∷ 1 ∷ [])) 24 ≡ passed
unfolding meaning
p3-inner = refl

-- equal job numbers, 12 in edition 1 (d11-equal-jobs), do not pass the check
p3-board : board_verdict (2 ∷ 2 ∷ entry 1 2 2 ++ (entry 0 2 2 ++ (3 ∷ 3 ∷ 0 ∷ 0 ∷ []))) 16 ≡ blamed 13 0
unfolding meaning
p3-board = refl

-- the listing says nothing of the edition
p3-listing : listing_text (2 ∷ 1 ∷ entry 1 2 2 ++ (3 ∷ 4 ∷ [])) ≡ text "columns 1\ncolumn 0 rising plan 1 count 2 bytes 2\n0 3\n1 4\nend\n"
unfolding meaning
p3-listing = refl

-- writing: the edition that is asked for, with 10 by its kind; another is 11, before any plan
p3-written : write_apart 2 (1 ∷ []) (replicate 15 0) (3 ∷ []) (5 ∷ 6 ∷ 134 ∷ []) 21 30
    ≡ given (2 ∷ 1 ∷ 1 ∷ 17 ∷ 1 ∷ (replicate 13 0 ++ (3 ∷ 0 ∷ 0 ∷ 0 ∷ 4 ∷ 0 ∷ 0 ∷ 0 ∷ 5 ∷ 1 ∷ 128 ∷ 1 ∷ [])))
unfolding meaning
p3-written = refl

p3-equal-written : write_apart 2 (1 ∷ []) (replicate 15 0) (3 ∷ []) (5 ∷ 5 ∷ 133 ∷ []) 21 30 ≡ refused 10
unfolding meaning
p3-equal-written = refl

p3-edition-11 : write_apart 3 (0 ∷ []) (9 ∷ replicate 14 0) (1 ∷ []) (1 ∷ []) 7 99 ≡ refused 11
unfolding meaning
p3-edition-11 = refl

p3-edition-0 : write_apart 0 [] [] [] [] 0 2 ≡ refused 11
unfolding meaning
p3-edition-0 = refl

-- ---- request P4: the directly addressed list
p4-empty : read (code 8) (0 ∷ 0 ∷ 0 ∷ 0 ∷ []) 0 ≡ given []
unfolding meaning
p4-empty = refl

p4-no-header : read (code 8) [] 0 ≡ refused 9
unfolding meaning
p4-no-header = refl

p4-eight : judge 0 (8 ∷ replicate 14 0) ≡ given tt
unfolding meaning
p4-eight = refl

p4-nine : judge 0 (9 ∷ replicate 14 0) ≡ refused 3
unfolding meaning
p4-nine = refl

p4-worst : worst_size (8 ∷ replicate 14 0) 128 ≡ given 582
unfolding meaning
p4-worst = refl

-- the parts' ends come first, also for a lookup: a data byte too few, and a number of data bytes near 2^32
p4-data-cut : look (code 8) (2 ∷ 0 ∷ 0 ∷ 0 ∷ 3 ∷ 5 ∷ []) 2 0 ≡ refused 9
unfolding meaning
p4-data-cut = refl

p4-far : look (code 8) (255 ∷ 255 ∷ 255 ∷ 255 ∷ 1 ∷ 5 ∷ []) 1 0 ≡ refused 9
unfolding meaning
p4-far = refl

-- reading asks for spare bits, for the last bit and for as many ones as numbers; a lookup does not
p4-spare-read : read (code 8) (1 ∷ 0 ∷ 0 ∷ 0 ∷ 3 ∷ 5 ∷ []) 1 ≡ refused 13
unfolding meaning
p4-spare-read = refl

p4-spare-looked : look (code 8) (1 ∷ 0 ∷ 0 ∷ 0 ∷ 3 ∷ 5 ∷ []) 1 0 ≡ given 5
unfolding meaning
p4-spare-looked = refl

-- a spare bit ends no number
p4-spare-end : look (code 8) (1 ∷ 0 ∷ 0 ∷ 0 ∷ 3 ∷ 5 ∷ []) 2 1 ≡ refused 13
unfolding meaning
p4-spare-end = refl

p4-last-read : read (code 8) (2 ∷ 0 ∷ 0 ∷ 0 ∷ 1 ∷ 5 ∷ 6 ∷ []) 1 ≡ refused 13
unfolding meaning
p4-last-read = refl

p4-last-looked : look (code 8) (2 ∷ 0 ∷ 0 ∷ 0 ∷ 1 ∷ 5 ∷ 6 ∷ []) 1 0 ≡ given 5
unfolding meaning
p4-last-looked = refl

p4-more-ones : read (code 8) (2 ∷ 0 ∷ 0 ∷ 0 ∷ 3 ∷ 5 ∷ 6 ∷ []) 1 ≡ refused 13
unfolding meaning
p4-more-ones = refl

p4-more-looked : look (code 8) (2 ∷ 0 ∷ 0 ∷ 0 ∷ 3 ∷ 5 ∷ 6 ∷ []) 1 0 ≡ given 5
unfolding meaning
p4-more-looked = refl

-- at most four bytes, and the fewest
p4-five-bytes : look (code 8) (5 ∷ 0 ∷ 0 ∷ 0 ∷ 0x10 ∷ 1 ∷ 2 ∷ 3 ∷ 4 ∷ 5 ∷ []) 1 0 ≡ refused 13
unfolding meaning
p4-five-bytes = refl

p4-longer : look (code 8) (2 ∷ 0 ∷ 0 ∷ 0 ∷ 2 ∷ 5 ∷ 0 ∷ []) 1 0 ≡ refused 13
unfolding meaning
p4-longer = refl

-- 1,024 numbers of one byte with these sums: all are 1 but those at places 11 and 513
abbrev summed : List ℕ → List ℕ
summed sums = 0 ∷ 4 ∷ 0 ∷ 0 ∷ (replicate 128 255 ++ (sums ++ (replicate 11 1 ++ (11 ∷ replicate 501 1 ++ (7 ∷ replicate 510 1)))))

p4-true-sums : look (code 8) (summed (0 ∷ 2 ∷ 0 ∷ 4 ∷ [])) 1024 11 ≡ given 11
unfolding meaning
p4-true-sums = refl

-- a false sum is a fault to reading, and a lookup goes by it: place 11 is the second number after 10 that end before the second stretch
p4-false-read : read (code 8) (summed (10 ∷ 0 ∷ 0 ∷ 4 ∷ [])) 1024 ≡ refused 13
unfolding meaning
p4-false-read = refl

p4-false-looked : look (code 8) (summed (10 ∷ 0 ∷ 0 ∷ 4 ∷ [])) 1024 11 ≡ given 7
unfolding meaning
p4-false-looked = refl

-- sums that fall: none is above the place, and no bit follows the last
p4-falling : look (code 8) (summed (10 ∷ 0 ∷ 5 ∷ 0 ∷ [])) 1024 11 ≡ refused 13
unfolding meaning
p4-falling = refl

-- below a stage each place is looked up by itself: the second number is in more bytes than it needs
p4-reference-first : look (reference (code 8)) (1 ∷ 0 ∷ 0 ∷ 0 ∷ 3 ∷ 0 ∷ 0 ∷ 0 ∷ 5 ∷ 9 ∷ 5 ∷ 0 ∷ []) 2 0 ≡ given 10
unfolding meaning
p4-reference-first = refl

p4-differences-second : look (differences (code 8)) (3 ∷ 0 ∷ 0 ∷ 0 ∷ 6 ∷ 5 ∷ 0 ∷ 9 ∷ []) 2 1 ≡ refused 13
unfolding meaning
p4-differences-second = refl

p4-second-alone : look (code 8) (3 ∷ 0 ∷ 0 ∷ 0 ∷ 6 ∷ 5 ∷ 0 ∷ 9 ∷ []) 2 1 ≡ given 9
unfolding meaning
p4-second-alone = refl

-- an empty values body has 4 bytes
p4-empty-runs : write (runs (code 8) (code 1)) [] ≡ 0 ∷ 0 ∷ 0 ∷ 0 ∷ 4 ∷ 0 ∷ 0 ∷ 0 ∷ 0 ∷ 0 ∷ 0 ∷ 0 ∷ []
unfolding meaning
p4-empty-runs = refl

-- rank takes bits 0 through their number, select ones from 0
p4-rank : rank (0x45 ∷ 0x80 ∷ []) 3 ≡ given 2
unfolding meaning
p4-rank = refl

p4-rank-all : rank (0x45 ∷ 0x80 ∷ []) 16 ≡ given 4
unfolding meaning
p4-rank-all = refl

p4-rank-beyond : rank (0x45 ∷ 0x80 ∷ []) 17 ≡ refused 6
unfolding meaning
p4-rank-beyond = refl

p4-select : select (0x45 ∷ 0x80 ∷ []) 3 ≡ given 15
unfolding meaning
p4-select = refl

p4-select-beyond : select (0x45 ∷ 0x80 ∷ []) 4 ≡ refused 6
unfolding meaning
p4-select-beyond = refl

-- a VByte number that does not end is cut short, wherever its bytes stop; a fifth byte above 15 breaks the rule once met
p5-vbyte-cut : read (code 1) (0x80 ∷ []) 1 ≡ refused 9
unfolding meaning
p5-vbyte-cut = refl

p5-vbyte-four : read (code 1) (0xff ∷ 0xff ∷ 0xff ∷ 0xff ∷ []) 1 ≡ refused 9
unfolding meaning
p5-vbyte-four = refl

p5-vbyte-fifth : read (code 1) (0xff ∷ 0xff ∷ 0xff ∷ 0xff ∷ 0x80 ∷ []) 1 ≡ refused 13
unfolding meaning
p5-vbyte-fifth = refl

-- a group's data is missed before its rules are asked: an unused field that is not 0, a number not in the fewest bytes
p5-group-cut : read (code 2) (4 ∷ []) 1 ≡ refused 9
unfolding meaning
p5-group-cut = refl

p5-group-fewest : read (code 2) (5 ∷ 7 ∷ 0 ∷ 1 ∷ []) 2 ≡ refused 9
unfolding meaning
p5-group-fewest = refl

p5-group-whole : read (code 2) (5 ∷ 7 ∷ 0 ∷ 1 ∷ 2 ∷ []) 2 ≡ refused 13
unfolding meaning
p5-group-whole = refl

p5-batch-mask : read (code 7) (0xff ∷ []) 5 ≡ refused 9
unfolding meaning
p5-batch-mask = refl

-- a block of fewer than nine bytes is cut short, whatever it and the block before say
p5-block-cut : read (code 3) (0xff ∷ 0 ∷ 0 ∷ 0 ∷ 0 ∷ 0 ∷ 0 ∷ 0 ∷ []) 8 ≡ refused 9
unfolding meaning
p5-block-cut = refl

p5-block-wrong : read (code 3) (0xff ∷ 0 ∷ 0 ∷ 0 ∷ 0 ∷ 0 ∷ 0 ∷ 0 ∷ 0 ∷ []) 8 ≡ refused 13
unfolding meaning
p5-block-wrong = refl

p5-block-after : read (code 3) (0xe0 ∷ 1 ∷ 2 ∷ 3 ∷ 4 ∷ 5 ∷ 0 ∷ 0 ∷ 0 ∷ 0xfe ∷ 6 ∷ []) 6 ≡ refused 9
unfolding meaning
p5-block-after = refl

-- gamma: 32 zeros may come and then the body ends; the 33rd breaks the rule
p5-gamma-cut : read (code 5) (0 ∷ 0 ∷ 0 ∷ 0 ∷ []) 1 ≡ refused 9
unfolding meaning
p5-gamma-cut = refl

p5-gamma-zeros : read (code 5) (0 ∷ 0 ∷ 0 ∷ 0 ∷ 0 ∷ []) 1 ≡ refused 13
unfolding meaning
p5-gamma-zeros = refl

-- delta: the sixth zero; a length whose bits are cut; a length of 34 before its value is missed
p5-delta-zeros : read (code 6) (0 ∷ []) 1 ≡ refused 13
unfolding meaning
p5-delta-zeros = refl

p5-delta-cut : read (code 6) (4 ∷ []) 1 ≡ refused 9
unfolding meaning
p5-delta-cut = refl

p5-delta-length : read (code 6) (4 ∷ 0x40 ∷ []) 1 ≡ refused 13
unfolding meaning
p5-delta-length = refl

-- the 8 bytes of a run stage are one header; then the run count, then the length of the values body
p5-runs-header : read (runs (code 1) (code 1)) (9 ∷ 0 ∷ 0 ∷ 0 ∷ 0 ∷ 0 ∷ 0 ∷ []) 1 ≡ refused 9
unfolding meaning
p5-runs-header = refl

p5-runs-count : read (runs (code 1) (code 1)) (9 ∷ 0 ∷ 0 ∷ 0 ∷ 9 ∷ 0 ∷ 0 ∷ 0 ∷ []) 1 ≡ refused 13
unfolding meaning
p5-runs-count = refl

p5-runs-values : read (runs (code 1) (code 1)) (1 ∷ 0 ∷ 0 ∷ 0 ∷ 9 ∷ 0 ∷ 0 ∷ 0 ∷ []) 1 ≡ refused 9
unfolding meaning
p5-runs-values = refl

-- reading takes the values before the lengths, a lookup the lengths before the values
p5-values-first : read (runs (code 1) (code 1)) (1 ∷ 0 ∷ 0 ∷ 0 ∷ 1 ∷ 0 ∷ 0 ∷ 0 ∷ 0x80 ∷ 0x80 ∷ 0 ∷ []) 1 ≡ refused 9
unfolding meaning
p5-values-first = refl

p5-lengths-first : look (runs (code 1) (code 1)) (1 ∷ 0 ∷ 0 ∷ 0 ∷ 1 ∷ 0 ∷ 0 ∷ 0 ∷ 0x80 ∷ 0x80 ∷ 0 ∷ []) 1 0 ≡ refused 13
unfolding meaning
p5-lengths-first = refl

-- a place under no run at all: the lengths' own header is not looked at
p5-no-run : look (runs (code 1) (reference (code 1))) (0 ∷ 0 ∷ 0 ∷ 0 ∷ 0 ∷ 0 ∷ 0 ∷ 0 ∷ []) 1 0 ≡ refused 13
unfolding meaning
p5-no-run = refl

-- differences take all units through the place before any sum: place 0 is too large, and the unit of place 1 is cut short
p5-sums-last : look (differences (reference (code 1))) (0xff ∷ 0xff ∷ 0xff ∷ 0xff ∷ 1 ∷ 0x80 ∷ []) 2 1 ≡ refused 9
unfolding meaning
p5-sums-last = refl

p5-sum-alone : look (differences (reference (code 1))) (0xff ∷ 0xff ∷ 0xff ∷ 0xff ∷ 1 ∷ 0x80 ∷ []) 2 0 ≡ refused 13
unfolding meaning
p5-sum-alone = refl

-- below differences all lengths come before the values: the value of run 0 is cut short, the length of run 1 breaks a rule
p5-run-0 : look (differences (runs (code 1) (code 1))) (2 ∷ 0 ∷ 0 ∷ 0 ∷ 1 ∷ 0 ∷ 0 ∷ 0 ∷ 0x80 ∷ 1 ∷ 0x80 ∷ 0 ∷ []) 4 0 ≡ refused 9
unfolding meaning
p5-run-0 = refl

p5-run-1 : look (differences (runs (code 1) (code 1))) (2 ∷ 0 ∷ 0 ∷ 0 ∷ 1 ∷ 0 ∷ 0 ∷ 0 ∷ 0x80 ∷ 1 ∷ 0x80 ∷ 0 ∷ []) 4 1 ≡ refused 13
unfolding meaning
p5-run-1 = refl

-- the kind is asked last: a list that falls, and then is cut short
p5-fall-last : check (1 ∷ 1 ∷ entry 1 3 2 ++ (5 ∷ 4 ∷ [])) 24 ≡ blamed 9 0
unfolding meaning
p5-fall-last = refl

-- a reference's own rules come after the whole inner body
p5-inner-first : read (reference (reference (code 1))) (1 ∷ 0 ∷ 0 ∷ 0 ∷ []) 0 ≡ refused 9
unfolding meaning
p5-inner-first = refl
