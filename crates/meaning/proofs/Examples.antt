-- The marked examples of document 01 and of requests P1 and P4 that are to be proved of the meaning, and the listing that document 01 prints: each closes by
-- computation. Assumes nothing.
use mathlib.Core.Path.{◌≡◌, refl}
use mathlib.Core.List.{[], ◌∷◌, ◌++◌}
use lib.ListN.{replicate}
use Rattle.meaning.specs.Plan.{code, plan_of}
use Rattle.meaning.specs.Stages.{write}
use Rattle.meaning.specs.Texts.{text, listing_text}
use Rattle.meaning.proofs.Computed.{meaning}

vbyte-32 : write (code 1) (32 ∷ []) ≡ 0x20 ∷ []
unfolding meaning
vbyte-32 = refl

vbyte-128 : write (code 1) (128 ∷ []) ≡ 0x80 ∷ 0x01 ∷ []
unfolding meaning
vbyte-128 = refl

vbyte-most : write (code 1) (4294967295 ∷ []) ≡ 0xff ∷ 0xff ∷ 0xff ∷ 0xff ∷ 0x0f ∷ []
unfolding meaning
vbyte-most = refl

stream : write (code 4) (1024 ∷ 12 ∷ 10 ∷ 1073741824 ∷ 1 ∷ 2 ∷ 3 ∷ 1024 ∷ [])
    ≡ 0xc1 ∷ 0x40 ∷ 0x00 ∷ 0x04 ∷ 0x0c ∷ 0x0a ∷ 0x00 ∷ 0x00 ∷ 0x00 ∷ 0x40 ∷ 0x01 ∷ 0x02 ∷ 0x03 ∷ 0x00 ∷ 0x04 ∷ []
unfolding meaning
stream = refl

groups : write (code 2) (1024 ∷ 12 ∷ 10 ∷ 1073741824 ∷ 1 ∷ 2 ∷ 3 ∷ 1024 ∷ [])
    ≡ 0xc1 ∷ 0x00 ∷ 0x04 ∷ 0x0c ∷ 0x0a ∷ 0x00 ∷ 0x00 ∷ 0x00 ∷ 0x40 ∷ 0x40 ∷ 0x01 ∷ 0x02 ∷ 0x03 ∷ 0x00 ∷ 0x04 ∷ []
unfolding meaning
groups = refl

-- request P1's: a full mask and a second, one zero, and a batch of 16 with a 17th number behind it
batches-001 : write (code 7) (1024 ∷ 12 ∷ 10 ∷ 1073741824 ∷ 1 ∷ 2 ∷ 3 ∷ 1024 ∷ [])
    ≡ 0x3e ∷ 0xbf ∷ 0x00 ∷ 0x04 ∷ 0x0c ∷ 0x0a ∷ 0x00 ∷ 0x00 ∷ 0x00 ∷ 0x40 ∷ 0x01 ∷ 0x02 ∷ 0x03 ∷ 0x00 ∷ 0x04 ∷ []
unfolding meaning
batches-001 = refl

batches-zero : write (code 7) (0 ∷ []) ≡ 0x03 ∷ 0x00 ∷ []
unfolding meaning
batches-zero = refl

batches-17 : write (code 7) (0 ∷ 1 ∷ 2 ∷ 3 ∷ 4 ∷ 5 ∷ 6 ∷ 7 ∷ 8 ∷ 9 ∷ 10 ∷ 11 ∷ 12 ∷ 13 ∷ 14 ∷ 15 ∷ 16 ∷ [])
    ≡ 0xff ∷ 0xff ∷ 0xff ∷ 0xff ∷ 0x00 ∷ 0x01 ∷ 0x02 ∷ 0x03 ∷ 0x04 ∷ 0x05 ∷ 0x06 ∷ 0x07 ∷ 0x08 ∷ 0x09 ∷ 0x0a ∷ 0x0b ∷ 0x0c ∷ 0x0d ∷ 0x0e ∷ 0x0f
    ∷ 0x03 ∷ 0x10 ∷ []
unfolding meaning
batches-17 = refl

batches-empty : write (code 7) [] ≡ []
unfolding meaning
batches-empty = refl

-- request P4's
direct-001 : write (code 8) (1024 ∷ 12 ∷ 10 ∷ []) ≡ 4 ∷ 0 ∷ 0 ∷ 0 ∷ 0x0e ∷ 0x00 ∷ 0x04 ∷ 0x0c ∷ 0x0a ∷ []
unfolding meaning
direct-001 = refl

direct-zero : write (code 8) (0 ∷ []) ≡ 1 ∷ 0 ∷ 0 ∷ 0 ∷ 0x01 ∷ 0x00 ∷ []
unfolding meaning
direct-zero = refl

direct-empty : write (code 8) [] ≡ 0 ∷ 0 ∷ 0 ∷ 0 ∷ []
unfolding meaning
direct-empty = refl

direct-lengths : write (code 8) (255 ∷ 256 ∷ 4294967295 ∷ []) ≡ 7 ∷ 0 ∷ 0 ∷ 0 ∷ 0x45 ∷ 0xff ∷ 0x00 ∷ 0x01 ∷ 0xff ∷ 0xff ∷ 0xff ∷ 0xff ∷ []
unfolding meaning
direct-lengths = refl

g8iu : write (code 3) (1 ∷ 2 ∷ 3 ∷ 1024 ∷ []) ≡ 0xe8 ∷ 0x01 ∷ 0x02 ∷ 0x03 ∷ 0x00 ∷ 0x04 ∷ 0x00 ∷ 0x00 ∷ 0x00 ∷ []
unfolding meaning
g8iu = refl

gamma-6-5 : write (code 5) (6 ∷ 5 ∷ []) ≡ 0x39 ∷ 0x80 ∷ []
unfolding meaning
gamma-6-5 = refl

gamma-most : write (code 5) (4294967295 ∷ []) ≡ 0x00 ∷ 0x00 ∷ 0x00 ∷ 0x00 ∷ 0x80 ∷ 0x00 ∷ 0x00 ∷ 0x00 ∷ 0x00 ∷ []
unfolding meaning
gamma-most = refl

delta-6 : write (code 6) (6 ∷ []) ≡ 0x78 ∷ []
unfolding meaning
delta-6 = refl

delta-most : write (code 6) (4294967295 ∷ []) ≡ 0x04 ∷ 0x20 ∷ 0x00 ∷ 0x00 ∷ 0x00 ∷ 0x00 ∷ []
unfolding meaning
delta-most = refl

runs-7-7-7-9 : write (plan_of (18 ∷ 1 ∷ 1 ∷ replicate 12 0)) (7 ∷ 7 ∷ 7 ∷ 9 ∷ [])
    ≡ 0x02 ∷ 0x00 ∷ 0x00 ∷ 0x00 ∷ 0x02 ∷ 0x00 ∷ 0x00 ∷ 0x00 ∷ 0x07 ∷ 0x09 ∷ 0x03 ∷ 0x01 ∷ []
unfolding meaning
runs-7-7-7-9 = refl

reference-1000-1002 : write (plan_of (16 ∷ 1 ∷ replicate 13 0)) (1000 ∷ 1002 ∷ []) ≡ 0xe8 ∷ 0x03 ∷ 0x00 ∷ 0x00 ∷ 0x00 ∷ 0x02 ∷ []
unfolding meaning
reference-1000-1002 = refl

listing : listing_text
    (0x01 ∷ 0x01 ∷ 0x01 ∷ 0x11 ∷ 0x01 ∷ replicate 13 0 ++ (0x03 ∷ 0x00 ∷ 0x00 ∷ 0x00 ∷ 0x04 ∷ 0x00 ∷ 0x00 ∷ 0x00 ∷ 0x05 ∷ 0x00 ∷ 0x80 ∷ 0x01 ∷ []))
    ≡ text "columns 1\ncolumn 0 rising plan 17 1 count 3 bytes 4\n0 5\n1 5\n2 133\nend\n"
unfolding meaning
listing = refl

-- its last line in bytes
listing-end : text "end\n" ≡ 0x65 ∷ 0x6e ∷ 0x64 ∷ 0x0a ∷ []
unfolding meaning
listing-end = refl
