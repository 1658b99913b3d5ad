-- The image of the worked file, worked out by hand from 01: what each of the area's 128 words is after the load. Addresses,
-- lengths and fields are octal. The area's address is 2000; the tables are 10 words at 2040, none at 2200 and 120 at 2060; the
-- units are 42 and 177777. A field has 16 bits, and the upper two bits of a half stay as they were. Words that are not named are
-- zero.
use Rattle.std.specs.Prelude.{ℕ, List, [], ◌∷◌, replicate}
use Rattle.hand_deck.specs.Blocks.{with_words}
use Rattle.worked_file.specs.Blocks.{named}

unfoldable pub worked_image : List ℕ
worked_image = with_words (
    -- A0 left: 4 + 2000 = 2004, below bits 35-34. Right as it was
    named 0o0 0o602004777777
    -- A1 left as it was. Right: 175777 + 2000 = 177777, which is 65,535; bits 17-16 as they were
    ∷ named 0o1 0o123456777777
    -- A2 left: bits 25-22 become 5, 0101: the left half's 417 becomes 537. Right: the number of TAPEA, 42
    ∷ named 0o2 0o777537000042
    -- A3 left: the number of TAPEB, 177777. Right as it was
    ∷ named 0o3 0o177777654321
    -- A4 left: bits 25-22 become 14, 1100. Right: 0 + 2000
    ∷ named 0o4 0o000300002000
    -- B0 left: 2040 + 120 = 2160. Right: 2060 - 10 = 2050
    ∷ named 0o5 0o402160202050
    -- B1 left: 2200 - 120 = 2060. Right: 2060 + 0 = 2060
    ∷ named 0o6 0o002060002060
    -- B2 left: 2040 + 77 = 2137. Right: 2060 - 2060 = 0
    ∷ named 0o7 0o002137000000
    -- B3 left: 2060 - 77 = 1761; it may be outside the area. Right: 2200 + 37777 = 42177
    ∷ named 0o10 0o001761042177
    -- B4 left: 120 + 5 = 125. Right: 120 - 100 = 20
    ∷ named 0o11 0o000125000020
    -- B5 left: 120 - 77 = 21. Right: 10 + 1750 = 1760
    ∷ named 0o12 0o000021001760
    -- C0 left: 2040 + 100 = 2140. Right: 2060 - 1 = 2057
    ∷ named 0o13 0o002140002057
    -- C1 left: 2060 - 144 = 1714. Right: 2200 + 0 = 2200
    ∷ named 0o14 0o001714002200
    -- C2 left: 120 + 100 = 220. Right: 10 - 10 = 0
    ∷ named 0o15 0o000220000000
    -- C3 left: 120 - 101 = 17. Right: 0 + 11 = 11
    ∷ named 0o16 0o000017000011
    -- D0, over C4. Right: 21 + 2000 = 2021
    ∷ named 0o17 0o000000002021
    -- D1. The IBANK's last word, at 21, is stored by no group
    ∷ named 0o20 0o444444555555
    -- E0 left: 25 + 2000 = 2025. E1. Of the DBANK's three words, from 24 on, the first is stored by no group
    ∷ named 0o25 0o002025001234
    ∷ named 0o26 0o701234567012
    -- F0, at word 2 of table 0: 2040 + 2 is 42 from the area's first word on. Left: 10 + 0 = 10. Right: 7 + 2000 = 2007. F1
    ∷ named 0o42 0o000010002007
    ∷ named 0o43 0o707070707070
    -- G0, at word 117 of table 2: 2060 + 117 is 177 from the area's first word on. Right: the number of TAPEB
    ∷ named 0o177 0o777777177777
    ∷ []) (replicate 0o200 0)
