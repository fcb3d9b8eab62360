-- What is stored for the journals of N9, of all eight directions after each record: amount, unrounded sum, intervals in the span, and in how many
-- of them the grains were assigned to the direction.
use Rattle.std.specs.Prelude.{List, [], ◌∷◌, ℕ, pos}
use Rattle.signed.specs.Range.{minus}
use Rattle.rules.specs.Figures.{Compared, comparing}

-- Amount and unrounded sum 0.
abbrev pub zeros : ℕ → ℕ → Compared
zeros intervals assigned = comparing (pos 0) (pos 0) intervals assigned

abbrev pub tight_below : List (List Compared)
tight_below =
    (comparing (minus 1) (minus 1200000) 1 1 ∷ zeros 1 0 ∷ zeros 1 1 ∷ zeros 1 0 ∷ zeros 1 1 ∷ zeros 1 0 ∷ zeros 1 1 ∷ zeros 1 0 ∷ []) ∷
    (comparing (minus 2) (minus 2400000) 2 2 ∷ zeros 2 0 ∷ zeros 2 2 ∷ zeros 2 0 ∷ zeros 2 2 ∷ zeros 2 0 ∷ zeros 2 2 ∷ zeros 2 0 ∷ []) ∷
    (comparing (minus 3) (minus 3600000) 3 3 ∷ zeros 3 0 ∷ zeros 3 3 ∷ zeros 3 0 ∷ zeros 3 3 ∷ zeros 3 0 ∷ zeros 3 3 ∷ zeros 3 0 ∷ []) ∷
    (comparing (minus 4) (minus 4800000) 4 4 ∷ zeros 4 0 ∷ zeros 4 4 ∷ zeros 4 0 ∷ zeros 4 4 ∷ zeros 4 0 ∷ zeros 4 4 ∷ zeros 4 0 ∷ []) ∷
    (comparing (minus 5) (minus 6000000) 5 5 ∷ zeros 5 0 ∷ zeros 5 5 ∷ zeros 5 0 ∷ zeros 5 5 ∷ zeros 5 0 ∷ zeros 5 5 ∷ zeros 5 0 ∷ []) ∷
    (comparing (minus 6) (minus 7200000) 6 6 ∷ zeros 0 0 ∷ zeros 0 0 ∷ zeros 0 0 ∷ zeros 0 0 ∷ zeros 0 0 ∷ zeros 0 0 ∷ zeros 0 0 ∷ []) ∷
    (comparing (minus 7) (minus 8400000) 7 7 ∷ zeros 1 0 ∷ zeros 1 1 ∷ zeros 1 0 ∷ zeros 1 1 ∷ zeros 1 0 ∷ zeros 1 1 ∷ zeros 1 0 ∷ []) ∷
    (comparing (minus 8) (minus 9600000) 8 8 ∷ zeros 2 0 ∷ zeros 2 2 ∷ zeros 2 0 ∷ zeros 2 2 ∷ zeros 2 0 ∷ zeros 2 2 ∷ zeros 2 0 ∷ []) ∷
    (comparing (minus 9) (minus 10800000) 9 9 ∷ zeros 3 0 ∷ zeros 3 3 ∷ zeros 3 0 ∷ zeros 3 3 ∷ zeros 3 0 ∷ zeros 3 3 ∷ zeros 3 0 ∷ []) ∷
    (comparing (minus 10) (minus 12000000) 10 10 ∷ zeros 4 0 ∷ zeros 4 4 ∷ zeros 4 0 ∷ zeros 4 4 ∷ zeros 4 0 ∷ zeros 4 4 ∷ zeros 4 0 ∷ []) ∷
    (comparing (minus 11) (minus 13200000) 11 11 ∷ zeros 5 0 ∷ zeros 5 5 ∷ zeros 5 0 ∷ zeros 5 5 ∷ zeros 5 0 ∷ zeros 5 5 ∷ zeros 5 0 ∷ []) ∷
    (comparing (minus 12) (minus 14400000) 12 12 ∷ zeros 0 0 ∷ zeros 0 0 ∷ zeros 0 0 ∷ zeros 0 0 ∷ zeros 0 0 ∷ zeros 0 0 ∷ zeros 0 0 ∷ []) ∷
    (comparing (minus 13) (minus 15600000) 13 13 ∷ zeros 1 0 ∷ zeros 1 1 ∷ zeros 1 0 ∷ zeros 1 1 ∷ zeros 1 0 ∷ zeros 1 1 ∷ zeros 1 0 ∷ []) ∷
    (comparing (minus 14) (minus 16800000) 14 14 ∷ zeros 2 0 ∷ zeros 2 2 ∷ zeros 2 0 ∷ zeros 2 2 ∷ zeros 2 0 ∷ zeros 2 2 ∷ zeros 2 0 ∷ []) ∷
    (comparing (minus 15) (minus 18000000) 15 15 ∷ zeros 3 0 ∷ zeros 3 3 ∷ zeros 3 0 ∷ zeros 3 3 ∷ zeros 3 0 ∷ zeros 3 3 ∷ zeros 3 0 ∷ []) ∷
    (comparing (minus 16) (minus 19200000) 16 16 ∷ zeros 4 0 ∷ zeros 4 4 ∷ zeros 4 0 ∷ zeros 4 4 ∷ zeros 4 0 ∷ zeros 4 4 ∷ zeros 4 0 ∷ []) ∷
    (comparing (minus 17) (minus 20400000) 17 17 ∷ zeros 5 0 ∷ zeros 5 5 ∷ zeros 5 0 ∷ zeros 5 5 ∷ zeros 5 0 ∷ zeros 5 5 ∷ zeros 5 0 ∷ []) ∷
    (comparing (minus 18) (minus 21600000) 18 18 ∷ zeros 0 0 ∷ zeros 0 0 ∷ zeros 0 0 ∷ zeros 0 0 ∷ zeros 0 0 ∷ zeros 0 0 ∷ zeros 0 0 ∷ []) ∷ []

abbrev pub tight_above : List (List Compared)
tight_above =
    (comparing (minus 1) (minus 1200000) 1 1 ∷ zeros 1 0 ∷ zeros 1 1 ∷ zeros 1 0 ∷ zeros 1 1 ∷ zeros 1 0 ∷ zeros 1 1 ∷ zeros 1 0 ∷ []) ∷
    (comparing (minus 1) (minus 2399000) 2 2 ∷ zeros 2 0 ∷ zeros 2 2 ∷ zeros 2 0 ∷ zeros 2 2 ∷ zeros 2 0 ∷ zeros 2 2 ∷ zeros 2 0 ∷ []) ∷
    (comparing (minus 1) (minus 3598000) 3 3 ∷ zeros 3 0 ∷ zeros 3 3 ∷ zeros 3 0 ∷ zeros 3 3 ∷ zeros 3 0 ∷ zeros 3 3 ∷ zeros 3 0 ∷ []) ∷
    (comparing (minus 1) (minus 4797000) 4 4 ∷ zeros 4 0 ∷ zeros 4 4 ∷ zeros 4 0 ∷ zeros 4 4 ∷ zeros 4 0 ∷ zeros 4 4 ∷ zeros 4 0 ∷ []) ∷
    (comparing (minus 1) (minus 5996000) 5 5 ∷ zeros 5 0 ∷ zeros 5 5 ∷ zeros 5 0 ∷ zeros 5 5 ∷ zeros 5 0 ∷ zeros 5 5 ∷ zeros 5 0 ∷ []) ∷
    (comparing (minus 1) (minus 7195000) 6 6 ∷ zeros 0 0 ∷ zeros 0 0 ∷ zeros 0 0 ∷ zeros 0 0 ∷ zeros 0 0 ∷ zeros 0 0 ∷ zeros 0 0 ∷ []) ∷
    (comparing (minus 2) (minus 8395000) 7 7 ∷ zeros 1 0 ∷ zeros 1 1 ∷ zeros 1 0 ∷ zeros 1 1 ∷ zeros 1 0 ∷ zeros 1 1 ∷ zeros 1 0 ∷ []) ∷
    (comparing (minus 2) (minus 9594000) 8 8 ∷ zeros 2 0 ∷ zeros 2 2 ∷ zeros 2 0 ∷ zeros 2 2 ∷ zeros 2 0 ∷ zeros 2 2 ∷ zeros 2 0 ∷ []) ∷
    (comparing (minus 2) (minus 10793000) 9 9 ∷ zeros 3 0 ∷ zeros 3 3 ∷ zeros 3 0 ∷ zeros 3 3 ∷ zeros 3 0 ∷ zeros 3 3 ∷ zeros 3 0 ∷ []) ∷
    (comparing (minus 2) (minus 11992000) 10 10 ∷ zeros 4 0 ∷ zeros 4 4 ∷ zeros 4 0 ∷ zeros 4 4 ∷ zeros 4 0 ∷ zeros 4 4 ∷ zeros 4 0 ∷ []) ∷
    (comparing (minus 2) (minus 13191000) 11 11 ∷ zeros 5 0 ∷ zeros 5 5 ∷ zeros 5 0 ∷ zeros 5 5 ∷ zeros 5 0 ∷ zeros 5 5 ∷ zeros 5 0 ∷ []) ∷
    (comparing (minus 2) (minus 14390000) 12 12 ∷ zeros 0 0 ∷ zeros 0 0 ∷ zeros 0 0 ∷ zeros 0 0 ∷ zeros 0 0 ∷ zeros 0 0 ∷ zeros 0 0 ∷ []) ∷
    (comparing (minus 3) (minus 15590000) 13 13 ∷ zeros 1 0 ∷ zeros 1 1 ∷ zeros 1 0 ∷ zeros 1 1 ∷ zeros 1 0 ∷ zeros 1 1 ∷ zeros 1 0 ∷ []) ∷
    (comparing (minus 3) (minus 16789000) 14 14 ∷ zeros 2 0 ∷ zeros 2 2 ∷ zeros 2 0 ∷ zeros 2 2 ∷ zeros 2 0 ∷ zeros 2 2 ∷ zeros 2 0 ∷ []) ∷
    (comparing (minus 3) (minus 17988000) 15 15 ∷ zeros 3 0 ∷ zeros 3 3 ∷ zeros 3 0 ∷ zeros 3 3 ∷ zeros 3 0 ∷ zeros 3 3 ∷ zeros 3 0 ∷ []) ∷
    (comparing (minus 3) (minus 19187000) 16 16 ∷ zeros 4 0 ∷ zeros 4 4 ∷ zeros 4 0 ∷ zeros 4 4 ∷ zeros 4 0 ∷ zeros 4 4 ∷ zeros 4 0 ∷ []) ∷
    (comparing (minus 3) (minus 20386000) 17 17 ∷ zeros 5 0 ∷ zeros 5 5 ∷ zeros 5 0 ∷ zeros 5 5 ∷ zeros 5 0 ∷ zeros 5 5 ∷ zeros 5 0 ∷ []) ∷
    (comparing (minus 3) (minus 21585000) 18 18 ∷ zeros 0 0 ∷ zeros 0 0 ∷ zeros 0 0 ∷ zeros 0 0 ∷ zeros 0 0 ∷ zeros 0 0 ∷ zeros 0 0 ∷ []) ∷ []

abbrev pub all_round_to_0 : List (List Compared)
all_round_to_0 =
    (comparing (pos 0) (minus 1199000) 1 1 ∷ zeros 1 0 ∷ zeros 1 1 ∷ zeros 1 0 ∷ zeros 1 1 ∷ zeros 1 0 ∷ zeros 1 1 ∷ zeros 1 0 ∷ []) ∷
    (comparing (pos 0) (minus 2398000) 2 2 ∷ zeros 2 0 ∷ zeros 2 2 ∷ zeros 2 0 ∷ zeros 2 2 ∷ zeros 2 0 ∷ zeros 2 2 ∷ zeros 2 0 ∷ []) ∷
    (comparing (pos 0) (minus 3597000) 3 3 ∷ zeros 3 0 ∷ zeros 3 3 ∷ zeros 3 0 ∷ zeros 3 3 ∷ zeros 3 0 ∷ zeros 3 3 ∷ zeros 3 0 ∷ []) ∷
    (comparing (pos 0) (minus 4796000) 4 4 ∷ zeros 4 0 ∷ zeros 4 4 ∷ zeros 4 0 ∷ zeros 4 4 ∷ zeros 4 0 ∷ zeros 4 4 ∷ zeros 4 0 ∷ []) ∷
    (comparing (pos 0) (minus 5995000) 5 5 ∷ zeros 5 0 ∷ zeros 5 5 ∷ zeros 5 0 ∷ zeros 5 5 ∷ zeros 5 0 ∷ zeros 5 5 ∷ zeros 5 0 ∷ []) ∷
    (zeros 0 0 ∷ zeros 0 0 ∷ zeros 0 0 ∷ zeros 0 0 ∷ zeros 0 0 ∷ zeros 0 0 ∷ zeros 0 0 ∷ zeros 0 0 ∷ []) ∷
    (comparing (pos 0) (minus 1199000) 1 1 ∷ zeros 1 0 ∷ zeros 1 1 ∷ zeros 1 0 ∷ zeros 1 1 ∷ zeros 1 0 ∷ zeros 1 1 ∷ zeros 1 0 ∷ []) ∷
    (comparing (pos 0) (minus 2398000) 2 2 ∷ zeros 2 0 ∷ zeros 2 2 ∷ zeros 2 0 ∷ zeros 2 2 ∷ zeros 2 0 ∷ zeros 2 2 ∷ zeros 2 0 ∷ []) ∷
    (comparing (pos 0) (minus 3597000) 3 3 ∷ zeros 3 0 ∷ zeros 3 3 ∷ zeros 3 0 ∷ zeros 3 3 ∷ zeros 3 0 ∷ zeros 3 3 ∷ zeros 3 0 ∷ []) ∷
    (comparing (pos 0) (minus 4796000) 4 4 ∷ zeros 4 0 ∷ zeros 4 4 ∷ zeros 4 0 ∷ zeros 4 4 ∷ zeros 4 0 ∷ zeros 4 4 ∷ zeros 4 0 ∷ []) ∷
    (comparing (pos 0) (minus 5995000) 5 5 ∷ zeros 5 0 ∷ zeros 5 5 ∷ zeros 5 0 ∷ zeros 5 5 ∷ zeros 5 0 ∷ zeros 5 5 ∷ zeros 5 0 ∷ []) ∷
    (zeros 0 0 ∷ zeros 0 0 ∷ zeros 0 0 ∷ zeros 0 0 ∷ zeros 0 0 ∷ zeros 0 0 ∷ zeros 0 0 ∷ zeros 0 0 ∷ []) ∷
    (comparing (pos 0) (minus 1199000) 1 1 ∷ zeros 1 0 ∷ zeros 1 1 ∷ zeros 1 0 ∷ zeros 1 1 ∷ zeros 1 0 ∷ zeros 1 1 ∷ zeros 1 0 ∷ []) ∷
    (comparing (pos 0) (minus 2398000) 2 2 ∷ zeros 2 0 ∷ zeros 2 2 ∷ zeros 2 0 ∷ zeros 2 2 ∷ zeros 2 0 ∷ zeros 2 2 ∷ zeros 2 0 ∷ []) ∷ []

abbrev pub both_ways : List (List Compared)
both_ways =
    (zeros 1 0 ∷ comparing (minus 1) (minus 1900000) 1 1 ∷ zeros 1 1 ∷ zeros 1 0 ∷ zeros 1 1 ∷ zeros 1 0 ∷ zeros 1 1 ∷ zeros 1 0 ∷ []) ∷
    (comparing (minus 1) (minus 1900000) 2 1 ∷ comparing (minus 1) (minus 1900000) 2 1 ∷ zeros 2 2 ∷ zeros 2 0 ∷ zeros 2 2 ∷ zeros 2 0 ∷ zeros 2 2 ∷ zeros 2 0 ∷ []) ∷
    (comparing (minus 2) (minus 3800000) 3 2 ∷ comparing (minus 1) (minus 1900000) 3 1 ∷ zeros 3 3 ∷ zeros 3 0 ∷ zeros 3 3 ∷ zeros 3 0 ∷ zeros 3 3 ∷ zeros 3 0 ∷ []) ∷
    (comparing (minus 2) (minus 3800000) 4 2 ∷ comparing (minus 2) (minus 3800000) 4 2 ∷ zeros 4 4 ∷ zeros 4 0 ∷ zeros 4 4 ∷ zeros 4 0 ∷ zeros 4 4 ∷ zeros 4 0 ∷ []) ∷
    (comparing (minus 3) (minus 5700000) 5 3 ∷ comparing (minus 2) (minus 3800000) 5 2 ∷ zeros 5 5 ∷ zeros 5 0 ∷ zeros 5 5 ∷ zeros 5 0 ∷ zeros 5 5 ∷ zeros 5 0 ∷ []) ∷
    (comparing (minus 4) (minus 7600000) 6 4 ∷ comparing (minus 2) (minus 3800000) 6 2 ∷ zeros 0 0 ∷ zeros 0 0 ∷ zeros 0 0 ∷ zeros 0 0 ∷ zeros 0 0 ∷ zeros 0 0 ∷ []) ∷
    (comparing (minus 4) (minus 7600000) 7 4 ∷ comparing (minus 3) (minus 5700000) 7 3 ∷ zeros 1 1 ∷ zeros 1 0 ∷ zeros 1 1 ∷ zeros 1 0 ∷ zeros 1 1 ∷ zeros 1 0 ∷ []) ∷
    (comparing (minus 5) (minus 9500000) 8 5 ∷ comparing (minus 3) (minus 5700000) 8 3 ∷ zeros 2 2 ∷ zeros 2 0 ∷ zeros 2 2 ∷ zeros 2 0 ∷ zeros 2 2 ∷ zeros 2 0 ∷ []) ∷
    (comparing (minus 6) (minus 11400000) 9 6 ∷ comparing (minus 3) (minus 5700000) 9 3 ∷ zeros 3 3 ∷ zeros 3 0 ∷ zeros 3 3 ∷ zeros 3 0 ∷ zeros 3 3 ∷ zeros 3 0 ∷ []) ∷
    (comparing (minus 6) (minus 11400000) 10 6 ∷ comparing (minus 4) (minus 7600000) 10 4 ∷ zeros 4 4 ∷ zeros 4 0 ∷ zeros 4 4 ∷ zeros 4 0 ∷ zeros 4 4 ∷ zeros 4 0 ∷ []) ∷
    (comparing (minus 7) (minus 13300000) 11 7 ∷ comparing (minus 4) (minus 7600000) 11 4 ∷ zeros 5 5 ∷ zeros 5 0 ∷ zeros 5 5 ∷ zeros 5 0 ∷ zeros 5 5 ∷ zeros 5 0 ∷ []) ∷
    (comparing (minus 8) (minus 15200000) 12 8 ∷ comparing (minus 4) (minus 7600000) 12 4 ∷ zeros 0 0 ∷ zeros 0 0 ∷ zeros 0 0 ∷ zeros 0 0 ∷ zeros 0 0 ∷ zeros 0 0 ∷ []) ∷
    (comparing (minus 8) (minus 15200000) 13 8 ∷ comparing (minus 5) (minus 9500000) 13 5 ∷ zeros 1 1 ∷ zeros 1 0 ∷ zeros 1 1 ∷ zeros 1 0 ∷ zeros 1 1 ∷ zeros 1 0 ∷ []) ∷
    (comparing (minus 9) (minus 17100000) 14 9 ∷ comparing (minus 5) (minus 9500000) 14 5 ∷ zeros 2 2 ∷ zeros 2 0 ∷ zeros 2 2 ∷ zeros 2 0 ∷ zeros 2 2 ∷ zeros 2 0 ∷ []) ∷ []

abbrev pub random_0 : List (List Compared)
random_0 =
    (zeros 1 0 ∷ comparing (minus 35110) (minus 84264650000) 1 1 ∷ zeros 1 0 ∷ comparing (minus 22084) (minus 53002232000) 1 1 ∷ comparing (minus 11000000) (minus 26399999986000) 1 1 ∷ zeros 1 0 ∷ zeros 1 0 ∷ zeros 1 1 ∷ []) ∷
    (zeros 2 1 ∷ comparing (minus 35110) (minus 84264650000) 2 1 ∷ zeros 2 1 ∷ comparing (minus 22084) (minus 53002232000) 2 1 ∷ comparing (minus 11000000) (minus 26399999986000) 2 2 ∷ zeros 2 0 ∷ comparing (minus 3194) (minus 7666191000) 2 1 ∷ zeros 2 1 ∷ []) ∷
    (zeros 3 1 ∷ comparing (minus 103895) (minus 249347922000) 3 2 ∷ comparing (minus 5257) (minus 12617872000) 3 2 ∷ comparing (minus 22084) (minus 53002232000) 3 1 ∷ comparing (minus 11000000) (minus 26399999986000) 3 2 ∷ comparing (minus 11000000) (minus 26399999320000) 3 1 ∷ comparing (minus 3194) (minus 7666191000) 3 2 ∷ zeros 3 1 ∷ []) ∷
    (zeros 4 1 ∷ comparing (minus 153192) (minus 367660558000) 4 3 ∷ comparing (minus 5257) (minus 12617872000) 4 2 ∷ comparing (minus 23411) (minus 56187596000) 4 2 ∷ comparing (minus 11000000) (minus 26399999986000) 4 2 ∷ comparing (minus 22000000) (minus 52799998912000) 4 2 ∷ comparing (minus 3194) (minus 7666191000) 4 3 ∷ zeros 4 1 ∷ []) ∷
    (comparing (minus 11000000) (minus 26400000848000) 5 2 ∷ comparing (minus 153192) (minus 367660558000) 5 3 ∷ comparing (minus 5257) (minus 12617872000) 5 3 ∷ comparing (minus 23411) (minus 56187596000) 5 2 ∷ comparing (minus 11000000) (minus 26399999986000) 5 2 ∷ comparing (minus 22000000) (minus 52799998912000) 5 3 ∷ comparing (minus 3194) (minus 7666191000) 5 4 ∷ zeros 5 1 ∷ []) ∷
    (comparing (minus 22000000) (minus 52800000758000) 6 3 ∷ comparing (minus 153192) (minus 367660558000) 6 3 ∷ comparing (minus 5257) (minus 12617872000) 6 3 ∷ comparing (minus 24482) (minus 58758710000) 6 3 ∷ comparing (minus 11000000) (minus 26399999986000) 6 3 ∷ comparing (minus 22000000) (minus 52799998912000) 6 3 ∷ comparing (minus 3194) (minus 7666191000) 6 4 ∷ zeros 0 0 ∷ []) ∷
    (comparing (minus 33000000) (minus 79200000144000) 7 4 ∷ comparing (minus 153192) (minus 367660558000) 7 3 ∷ comparing (minus 5257) (minus 12617872000) 7 4 ∷ comparing (minus 24482) (minus 58758710000) 7 3 ∷ comparing (minus 11028232) (minus 26467756378000) 7 4 ∷ comparing (minus 22000000) (minus 52799998912000) 7 3 ∷ comparing (minus 4079) (minus 9790911000) 7 5 ∷ zeros 1 0 ∷ []) ∷
    (comparing (minus 33000000) (minus 79200000144000) 8 5 ∷ comparing (minus 153192) (minus 367660558000) 8 3 ∷ comparing (minus 5257) (minus 12617872000) 8 5 ∷ comparing (minus 24482) (minus 58758710000) 8 3 ∷ comparing (minus 11028232) (minus 26467756378000) 8 5 ∷ comparing (minus 22000000) (minus 52799998912000) 8 3 ∷ comparing (minus 4079) (minus 9790911000) 8 6 ∷ zeros 2 0 ∷ []) ∷
    (comparing (minus 33000000) (minus 79200000144000) 9 6 ∷ comparing (minus 153192) (minus 367660558000) 9 3 ∷ comparing (minus 5257) (minus 12617872000) 9 6 ∷ comparing (minus 24482) (minus 58758710000) 9 3 ∷ comparing (minus 11028232) (minus 26467756378000) 9 6 ∷ comparing (minus 22000000) (minus 52799998912000) 9 3 ∷ comparing (minus 4079) (minus 9790911000) 9 7 ∷ zeros 3 0 ∷ []) ∷
    (comparing (minus 33000000) (minus 79200000144000) 10 7 ∷ comparing (minus 153192) (minus 367660558000) 10 3 ∷ zeros 0 0 ∷ zeros 0 0 ∷ zeros 0 0 ∷ zeros 0 0 ∷ zeros 0 0 ∷ zeros 0 0 ∷ []) ∷
    (comparing (minus 33000000) (minus 79200000144000) 11 8 ∷ comparing (minus 153192) (minus 367660558000) 11 3 ∷ zeros 0 0 ∷ zeros 0 0 ∷ zeros 0 0 ∷ zeros 0 0 ∷ zeros 0 0 ∷ zeros 0 0 ∷ []) ∷
    (comparing (minus 33000000) (minus 79200000144000) 12 9 ∷ zeros 0 0 ∷ zeros 0 0 ∷ zeros 0 0 ∷ zeros 0 0 ∷ zeros 0 0 ∷ zeros 0 0 ∷ zeros 0 0 ∷ []) ∷
    (comparing (minus 33000000) (minus 79200000144000) 13 10 ∷ zeros 1 0 ∷ zeros 0 0 ∷ zeros 0 0 ∷ zeros 0 0 ∷ zeros 0 0 ∷ zeros 0 0 ∷ zeros 0 0 ∷ []) ∷
    (comparing (minus 33000000) (minus 79200000144000) 14 11 ∷ zeros 2 0 ∷ zeros 1 1 ∷ zeros 1 0 ∷ zeros 1 1 ∷ zeros 1 0 ∷ zeros 1 1 ∷ zeros 1 0 ∷ []) ∷
    (comparing (minus 33000000) (minus 79200000144000) 15 12 ∷ zeros 3 0 ∷ zeros 0 0 ∷ zeros 0 0 ∷ zeros 0 0 ∷ zeros 0 0 ∷ zeros 0 0 ∷ zeros 0 0 ∷ []) ∷
    (comparing (minus 33000000) (minus 79200000144000) 16 13 ∷ zeros 4 0 ∷ zeros 0 0 ∷ zeros 0 0 ∷ zeros 0 0 ∷ zeros 0 0 ∷ zeros 0 0 ∷ zeros 0 0 ∷ []) ∷
    (comparing (minus 33000000) (minus 79200000144000) 17 14 ∷ zeros 5 0 ∷ zeros 0 0 ∷ zeros 0 0 ∷ zeros 0 0 ∷ zeros 0 0 ∷ zeros 0 0 ∷ zeros 0 0 ∷ []) ∷
    (zeros 0 0 ∷ zeros 0 0 ∷ zeros 0 0 ∷ zeros 0 0 ∷ zeros 0 0 ∷ zeros 0 0 ∷ zeros 0 0 ∷ zeros 0 0 ∷ []) ∷
    (zeros 1 1 ∷ zeros 1 0 ∷ zeros 0 0 ∷ zeros 0 0 ∷ zeros 0 0 ∷ zeros 0 0 ∷ zeros 0 0 ∷ zeros 0 0 ∷ []) ∷
    (zeros 2 2 ∷ zeros 2 0 ∷ zeros 1 1 ∷ zeros 1 0 ∷ zeros 1 1 ∷ zeros 1 0 ∷ zeros 1 1 ∷ zeros 1 0 ∷ []) ∷
    (comparing (pos 0) (minus 600000) 3 3 ∷ zeros 3 0 ∷ zeros 0 0 ∷ zeros 0 0 ∷ zeros 0 0 ∷ zeros 0 0 ∷ zeros 0 0 ∷ zeros 0 0 ∷ []) ∷
    (comparing (pos 0) (minus 600000) 4 4 ∷ zeros 4 0 ∷ zeros 0 0 ∷ zeros 0 0 ∷ zeros 0 0 ∷ zeros 0 0 ∷ zeros 0 0 ∷ zeros 0 0 ∷ []) ∷
    (comparing (pos 0) (minus 600000) 5 5 ∷ zeros 5 0 ∷ zeros 0 0 ∷ zeros 0 0 ∷ zeros 0 0 ∷ zeros 0 0 ∷ zeros 0 0 ∷ zeros 0 0 ∷ []) ∷
    (zeros 0 0 ∷ zeros 0 0 ∷ zeros 0 0 ∷ zeros 0 0 ∷ zeros 0 0 ∷ zeros 0 0 ∷ zeros 0 0 ∷ zeros 0 0 ∷ []) ∷
    (zeros 1 1 ∷ zeros 1 0 ∷ zeros 0 0 ∷ zeros 0 0 ∷ zeros 0 0 ∷ zeros 0 0 ∷ zeros 0 0 ∷ zeros 0 0 ∷ []) ∷
    (zeros 2 2 ∷ zeros 2 0 ∷ zeros 0 0 ∷ zeros 0 0 ∷ zeros 0 0 ∷ zeros 0 0 ∷ zeros 0 0 ∷ zeros 0 0 ∷ []) ∷
    (zeros 3 3 ∷ zeros 3 0 ∷ zeros 0 0 ∷ zeros 0 0 ∷ zeros 0 0 ∷ zeros 0 0 ∷ zeros 0 0 ∷ zeros 0 0 ∷ []) ∷
    (comparing (minus 11000000) (minus 26400000000000) 4 4 ∷ zeros 4 0 ∷ zeros 1 0 ∷ zeros 1 1 ∷ zeros 1 0 ∷ comparing (minus 75834) (minus 182002484000) 1 1 ∷ zeros 1 1 ∷ zeros 1 0 ∷ []) ∷
    (comparing (minus 22000000) (minus 52799999372000) 5 5 ∷ zeros 5 0 ∷ zeros 2 1 ∷ zeros 2 1 ∷ zeros 2 0 ∷ comparing (minus 75834) (minus 182002484000) 2 2 ∷ comparing (minus 22034) (minus 52880815000) 2 2 ∷ zeros 2 0 ∷ []) ∷
    (comparing (minus 22000000) (minus 52799999372000) 6 6 ∷ zeros 0 0 ∷ zeros 0 0 ∷ comparing (minus 31437) (minus 75448032000) 3 2 ∷ zeros 0 0 ∷ comparing (minus 76933) (minus 184640924000) 3 3 ∷ comparing (minus 22034) (minus 52880815000) 3 3 ∷ zeros 0 0 ∷ []) ∷
    (comparing (minus 22000000) (minus 52799999372000) 7 7 ∷ zeros 1 0 ∷ zeros 1 1 ∷ comparing (minus 31437) (minus 75448032000) 4 2 ∷ zeros 1 0 ∷ comparing (minus 121921) (minus 292611086000) 4 4 ∷ comparing (minus 22034) (minus 52880815000) 4 4 ∷ zeros 1 0 ∷ []) ∷
    (comparing (minus 22600000) (minus 54239999372000) 8 8 ∷ zeros 2 0 ∷ zeros 0 0 ∷ zeros 0 0 ∷ zeros 0 0 ∷ zeros 0 0 ∷ zeros 0 0 ∷ zeros 0 0 ∷ []) ∷
    (comparing (minus 22600000) (minus 54239999372000) 9 9 ∷ zeros 3 0 ∷ zeros 0 0 ∷ zeros 0 0 ∷ zeros 0 0 ∷ zeros 0 0 ∷ zeros 0 0 ∷ zeros 0 0 ∷ []) ∷
    (comparing (minus 22600000) (minus 54239999972000) 10 10 ∷ zeros 4 0 ∷ zeros 0 0 ∷ zeros 0 0 ∷ zeros 0 0 ∷ zeros 0 0 ∷ zeros 0 0 ∷ zeros 0 0 ∷ []) ∷
    (comparing (minus 22600000) (minus 54240000572000) 11 11 ∷ zeros 5 0 ∷ zeros 0 0 ∷ zeros 0 0 ∷ zeros 0 0 ∷ zeros 0 0 ∷ zeros 0 0 ∷ zeros 0 0 ∷ []) ∷
    (comparing (minus 22600000) (minus 54240000572000) 12 11 ∷ zeros 0 0 ∷ zeros 0 0 ∷ zeros 0 0 ∷ zeros 0 0 ∷ zeros 1 0 ∷ zeros 0 0 ∷ zeros 0 0 ∷ []) ∷ []

abbrev pub random_1 : List (List Compared)
random_1 =
    (zeros 1 1 ∷ zeros 1 0 ∷ zeros 1 1 ∷ zeros 1 0 ∷ zeros 1 1 ∷ zeros 1 0 ∷ zeros 1 0 ∷ comparing (minus 2576) (minus 6181626000) 1 1 ∷ []) ∷
    (zeros 2 2 ∷ zeros 2 0 ∷ zeros 2 2 ∷ zeros 2 0 ∷ zeros 2 2 ∷ zeros 2 0 ∷ zeros 2 1 ∷ comparing (minus 2576) (minus 6181626000) 2 1 ∷ []) ∷
    (zeros 3 3 ∷ zeros 3 0 ∷ zeros 3 3 ∷ zeros 3 0 ∷ zeros 3 3 ∷ zeros 3 0 ∷ zeros 3 2 ∷ comparing (minus 2576) (minus 6181626000) 3 1 ∷ []) ∷
    (zeros 4 4 ∷ zeros 4 0 ∷ zeros 4 4 ∷ zeros 4 0 ∷ zeros 4 4 ∷ zeros 4 0 ∷ zeros 4 3 ∷ comparing (minus 2576) (minus 6181626000) 4 1 ∷ []) ∷
    (zeros 5 5 ∷ zeros 5 0 ∷ zeros 5 5 ∷ zeros 5 0 ∷ zeros 5 5 ∷ zeros 5 0 ∷ zeros 5 4 ∷ comparing (minus 2576) (minus 6181626000) 5 1 ∷ []) ∷
    (zeros 0 0 ∷ zeros 0 0 ∷ zeros 0 0 ∷ zeros 0 0 ∷ zeros 0 0 ∷ zeros 0 0 ∷ zeros 0 0 ∷ comparing (minus 2576) (minus 6181626000) 6 1 ∷ []) ∷
    (zeros 1 0 ∷ comparing (minus 3332) (minus 7996631000) 1 1 ∷ comparing (minus 97278) (minus 233466908000) 1 1 ∷ zeros 1 0 ∷ comparing (minus 10000000) (minus 23999999476000) 1 1 ∷ zeros 1 0 ∷ zeros 1 1 ∷ comparing (minus 2576) (minus 6181626000) 7 1 ∷ []) ∷
    (zeros 2 0 ∷ comparing (minus 3332) (minus 7996631000) 2 2 ∷ comparing (minus 97278) (minus 233466908000) 2 1 ∷ comparing (minus 13415) (minus 32195590000) 2 1 ∷ comparing (minus 10099999) (minus 24239997276000) 2 2 ∷ zeros 2 0 ∷ comparing (minus 8733) (minus 20959760000) 2 2 ∷ comparing (minus 2576) (minus 6181626000) 8 1 ∷ []) ∷
    (zeros 3 1 ∷ comparing (minus 3332) (minus 7996631000) 3 2 ∷ comparing (minus 97278) (minus 233466908000) 3 1 ∷ comparing (minus 22326) (minus 53583030000) 3 2 ∷ comparing (minus 10099999) (minus 24239997276000) 3 3 ∷ zeros 3 0 ∷ comparing (minus 8733) (minus 20959760000) 3 2 ∷ comparing (minus 20267) (minus 48640266000) 9 2 ∷ []) ∷
    (zeros 4 2 ∷ comparing (minus 3332) (minus 7996631000) 4 2 ∷ comparing (minus 97278) (minus 233466908000) 4 2 ∷ comparing (minus 22326) (minus 53583030000) 4 2 ∷ comparing (minus 10099999) (minus 24239997276000) 4 4 ∷ zeros 4 0 ∷ comparing (minus 8733) (minus 20959760000) 4 3 ∷ comparing (minus 20267) (minus 48640266000) 10 2 ∷ []) ∷
    (zeros 5 3 ∷ comparing (minus 3332) (minus 7996631000) 5 2 ∷ comparing (minus 97278) (minus 233466908000) 5 3 ∷ comparing (minus 22326) (minus 53583030000) 5 2 ∷ comparing (minus 10099999) (minus 24239997276000) 5 5 ∷ zeros 5 0 ∷ comparing (minus 8733) (minus 20959760000) 5 4 ∷ comparing (minus 20267) (minus 48640266000) 11 2 ∷ []) ∷
    (zeros 0 0 ∷ comparing (minus 3332) (minus 7996631000) 6 2 ∷ comparing (minus 97278) (minus 233466908000) 6 4 ∷ comparing (minus 22326) (minus 53583030000) 6 2 ∷ comparing (minus 10099999) (minus 24239997276000) 6 6 ∷ zeros 0 0 ∷ comparing (minus 8733) (minus 20959760000) 6 5 ∷ comparing (minus 20267) (minus 48640266000) 12 2 ∷ []) ∷
    (zeros 1 1 ∷ comparing (minus 3332) (minus 7996631000) 7 2 ∷ comparing (minus 97278) (minus 233466908000) 7 5 ∷ comparing (minus 22326) (minus 53583030000) 7 2 ∷ comparing (minus 10099999) (minus 24239997276000) 7 7 ∷ zeros 1 0 ∷ comparing (minus 8733) (minus 20959760000) 7 6 ∷ comparing (minus 20267) (minus 48640266000) 13 2 ∷ []) ∷
    (zeros 2 2 ∷ comparing (minus 3332) (minus 7996631000) 8 2 ∷ comparing (minus 97278) (minus 233466908000) 8 6 ∷ comparing (minus 22326) (minus 53583030000) 8 2 ∷ comparing (minus 10099999) (minus 24239997276000) 8 8 ∷ zeros 2 0 ∷ comparing (minus 8733) (minus 20959760000) 8 7 ∷ comparing (minus 20267) (minus 48640266000) 14 2 ∷ []) ∷
    (zeros 3 3 ∷ comparing (minus 3332) (minus 7996631000) 9 2 ∷ comparing (minus 97278) (minus 233466908000) 9 7 ∷ comparing (minus 22326) (minus 53583030000) 9 2 ∷ comparing (minus 10099999) (minus 24239997276000) 9 9 ∷ zeros 3 0 ∷ comparing (minus 8733) (minus 20959760000) 9 8 ∷ comparing (minus 20267) (minus 48640266000) 15 2 ∷ []) ∷
    (zeros 4 4 ∷ comparing (minus 3332) (minus 7996631000) 10 2 ∷ comparing (minus 97278) (minus 233466908000) 10 8 ∷ comparing (minus 22326) (minus 53583030000) 10 2 ∷ comparing (minus 10099999) (minus 24239997276000) 10 10 ∷ zeros 4 0 ∷ comparing (minus 8733) (minus 20959760000) 10 9 ∷ comparing (minus 20267) (minus 48640266000) 16 2 ∷ []) ∷
    (zeros 5 5 ∷ comparing (minus 3332) (minus 7996631000) 11 2 ∷ comparing (minus 97278) (minus 233466909000) 11 9 ∷ comparing (minus 22326) (minus 53583030000) 11 2 ∷ comparing (minus 10099999) (minus 24239997276000) 11 11 ∷ zeros 5 0 ∷ comparing (minus 8733) (minus 20959760000) 11 10 ∷ comparing (minus 20267) (minus 48640266000) 17 2 ∷ []) ∷
    (zeros 0 0 ∷ zeros 0 0 ∷ zeros 0 0 ∷ zeros 0 0 ∷ zeros 0 0 ∷ zeros 0 0 ∷ zeros 0 0 ∷ zeros 0 0 ∷ []) ∷
    (zeros 1 1 ∷ zeros 1 0 ∷ zeros 1 1 ∷ zeros 1 0 ∷ zeros 1 1 ∷ zeros 1 0 ∷ zeros 1 1 ∷ zeros 1 0 ∷ []) ∷
    (zeros 2 2 ∷ zeros 2 0 ∷ zeros 0 0 ∷ zeros 0 0 ∷ zeros 0 0 ∷ zeros 0 0 ∷ zeros 0 0 ∷ zeros 0 0 ∷ []) ∷
    (zeros 3 2 ∷ zeros 3 1 ∷ zeros 1 1 ∷ zeros 1 0 ∷ zeros 1 1 ∷ zeros 1 0 ∷ zeros 1 1 ∷ zeros 1 0 ∷ []) ∷
    (zeros 4 3 ∷ zeros 4 1 ∷ comparing (minus 54109) (minus 129862048000) 2 2 ∷ zeros 2 0 ∷ zeros 2 2 ∷ zeros 2 0 ∷ zeros 2 1 ∷ comparing (minus 5000001) (minus 12000002800000) 2 1 ∷ []) ∷
    (comparing (minus 1995) (minus 4789036000) 5 4 ∷ zeros 5 1 ∷ comparing (minus 54109) (minus 129862048000) 3 3 ∷ zeros 3 0 ∷ zeros 3 2 ∷ zeros 3 1 ∷ zeros 3 1 ∷ comparing (minus 5000001) (minus 12000002800000) 3 2 ∷ []) ∷
    (comparing (minus 1995) (minus 4789036000) 6 4 ∷ comparing (minus 5000001) (minus 12000003304000) 6 2 ∷ comparing (minus 54109) (minus 129862048000) 4 4 ∷ zeros 0 0 ∷ comparing (minus 26342) (minus 63221296000) 4 3 ∷ zeros 0 0 ∷ comparing (minus 9039) (minus 21694284000) 4 2 ∷ comparing (minus 5000001) (minus 12000002800000) 4 2 ∷ []) ∷
    (comparing (minus 1995) (minus 4789036000) 7 4 ∷ comparing (minus 10000000) (minus 24000001704000) 7 3 ∷ zeros 0 0 ∷ zeros 0 0 ∷ zeros 0 0 ∷ zeros 0 0 ∷ zeros 0 0 ∷ zeros 0 0 ∷ []) ∷
    (comparing (minus 1995) (minus 4789036000) 8 5 ∷ comparing (minus 10000000) (minus 24000001704000) 8 3 ∷ zeros 1 0 ∷ zeros 1 1 ∷ zeros 1 0 ∷ comparing (minus 21244) (minus 50985571000) 1 1 ∷ zeros 1 0 ∷ comparing (minus 10000002) (minus 24000004664000) 1 1 ∷ []) ∷
    (comparing (minus 2633) (minus 6321364000) 9 6 ∷ comparing (minus 10000000) (minus 24000001704000) 9 3 ∷ comparing (minus 997) (minus 2393972000) 2 1 ∷ zeros 2 1 ∷ comparing (minus 74012) (minus 177629672000) 2 1 ∷ comparing (minus 21244) (minus 50985571000) 2 1 ∷ zeros 2 0 ∷ comparing (minus 10000003) (minus 24000007664000) 2 2 ∷ []) ∷
    (comparing (minus 2633) (minus 6321364000) 10 7 ∷ comparing (minus 10000000) (minus 24000001704000) 10 3 ∷ comparing (minus 997) (minus 2393972000) 3 2 ∷ zeros 3 1 ∷ comparing (minus 74012) (minus 177629672000) 3 2 ∷ comparing (minus 21244) (minus 50985571000) 3 1 ∷ zeros 3 0 ∷ comparing (minus 10000003) (minus 24000007664000) 3 3 ∷ []) ∷
    (comparing (minus 2633) (minus 6321364000) 11 8 ∷ comparing (minus 10000000) (minus 24000001704000) 11 3 ∷ comparing (minus 997) (minus 2393972000) 4 3 ∷ zeros 4 1 ∷ comparing (minus 74012) (minus 177629672000) 4 3 ∷ comparing (minus 21244) (minus 50985571000) 4 1 ∷ zeros 4 1 ∷ comparing (minus 10000003) (minus 24000007664000) 4 3 ∷ []) ∷
    (comparing (minus 2633) (minus 6321364000) 12 8 ∷ comparing (minus 10000000) (minus 24000001705000) 12 4 ∷ comparing (minus 997) (minus 2393972000) 5 4 ∷ zeros 0 0 ∷ comparing (minus 74012) (minus 177629672000) 5 4 ∷ comparing (minus 21244) (minus 50985571000) 5 1 ∷ zeros 0 0 ∷ comparing (minus 10000003) (minus 24000007664000) 5 3 ∷ []) ∷
    (comparing (minus 2633) (minus 6321364000) 13 9 ∷ comparing (minus 10000000) (minus 24000001705000) 13 4 ∷ comparing (minus 997) (minus 2393972000) 6 5 ∷ zeros 1 0 ∷ comparing (minus 74012) (minus 177629672000) 6 5 ∷ comparing (minus 21244) (minus 50985571000) 6 1 ∷ zeros 1 0 ∷ comparing (minus 10000003) (minus 24000007664000) 6 4 ∷ []) ∷
    (comparing (minus 2633) (minus 6321364000) 14 10 ∷ comparing (minus 10000000) (minus 24000001705000) 14 4 ∷ comparing (minus 997) (minus 2393972000) 7 6 ∷ zeros 2 0 ∷ comparing (minus 74012) (minus 177629672000) 7 6 ∷ comparing (minus 21244) (minus 50985571000) 7 1 ∷ zeros 2 1 ∷ comparing (minus 10000003) (minus 24000007664000) 7 4 ∷ []) ∷
    (comparing (minus 2633) (minus 6321364000) 15 11 ∷ comparing (minus 10000000) (minus 24000001705000) 15 4 ∷ comparing (minus 997) (minus 2393972000) 8 7 ∷ zeros 3 0 ∷ comparing (minus 74012) (minus 177629672000) 8 7 ∷ comparing (minus 21244) (minus 50985571000) 8 1 ∷ zeros 3 1 ∷ comparing (minus 10000003) (minus 24000007664000) 8 5 ∷ []) ∷
    (comparing (minus 2633) (minus 6321364000) 16 11 ∷ comparing (minus 10000000) (minus 24000001706000) 16 5 ∷ zeros 0 0 ∷ zeros 0 0 ∷ zeros 0 0 ∷ zeros 0 0 ∷ zeros 0 0 ∷ zeros 0 0 ∷ []) ∷
    (comparing (minus 2633) (minus 6321364000) 17 11 ∷ comparing (minus 10000000) (minus 24000001706000) 17 6 ∷ comparing (minus 35029) (minus 84070038000) 1 1 ∷ zeros 1 0 ∷ zeros 1 1 ∷ zeros 1 0 ∷ zeros 1 1 ∷ zeros 1 0 ∷ []) ∷
    (zeros 0 0 ∷ zeros 0 0 ∷ comparing (minus 35029) (minus 84070038000) 2 1 ∷ zeros 0 0 ∷ zeros 0 0 ∷ zeros 0 0 ∷ zeros 0 0 ∷ zeros 0 0 ∷ []) ∷ []
