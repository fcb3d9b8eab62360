-- The records of the stored journals of N9, by their fields.
use mathlib.Core.List.{List, [], ◌∷◌, ◌++◌, flat_map}
use Rattle.std.specs.Prelude.{ℕ, ℤ, pos, take, replicate}
use Rattle.signed.specs.Range.{minus}
use Rattle.rules.specs.Figures.{bytes_of, signed_bytes, one_line}

-- A record by its n, flags, eight statuses and the numbers from byte 16 on, as many as there are; the rest is zero.
abbrev pub written : ℕ → ℕ → List ℕ → List ℤ → List ℕ
written n flags statuses numbers = take 168 (bytes_of n ++ (flags ∷ statuses) ++ replicate 3 0 ++ flat_map signed_bytes numbers ++ replicate 152 0)

abbrev pub tight_below : List (List ℕ)
tight_below =
    one_line 478044 (minus 1200) (pos 1) ∷
    one_line 478045 (minus 1200) (pos 1) ∷
    one_line 478046 (minus 1200) (pos 1) ∷
    one_line 478047 (minus 1200) (pos 1) ∷
    one_line 478048 (minus 1200) (pos 1) ∷
    one_line 478049 (minus 1200) (pos 1) ∷
    one_line 478050 (minus 1200) (pos 1) ∷
    one_line 478051 (minus 1200) (pos 1) ∷
    one_line 478052 (minus 1200) (pos 1) ∷
    one_line 478053 (minus 1200) (pos 1) ∷
    one_line 478054 (minus 1200) (pos 1) ∷
    one_line 478055 (minus 1200) (pos 1) ∷
    one_line 478056 (minus 1200) (pos 1) ∷
    one_line 478057 (minus 1200) (pos 1) ∷
    one_line 478058 (minus 1200) (pos 1) ∷
    one_line 478059 (minus 1200) (pos 1) ∷
    one_line 478060 (minus 1200) (pos 1) ∷
    one_line 478061 (minus 1200) (pos 1) ∷ []

abbrev pub tight_above : List (List ℕ)
tight_above =
    one_line 837498 (minus 1200) (pos 1) ∷
    one_line 837499 (minus 1199) (pos 1) ∷
    one_line 837500 (minus 1199) (pos 1) ∷
    one_line 837501 (minus 1199) (pos 1) ∷
    one_line 837502 (minus 1199) (pos 1) ∷
    one_line 837503 (minus 1199) (pos 1) ∷
    one_line 837504 (minus 1200) (pos 1) ∷
    one_line 837505 (minus 1199) (pos 1) ∷
    one_line 837506 (minus 1199) (pos 1) ∷
    one_line 837507 (minus 1199) (pos 1) ∷
    one_line 837508 (minus 1199) (pos 1) ∷
    one_line 837509 (minus 1199) (pos 1) ∷
    one_line 837510 (minus 1200) (pos 1) ∷
    one_line 837511 (minus 1199) (pos 1) ∷
    one_line 837512 (minus 1199) (pos 1) ∷
    one_line 837513 (minus 1199) (pos 1) ∷
    one_line 837514 (minus 1199) (pos 1) ∷
    one_line 837515 (minus 1199) (pos 1) ∷ []

abbrev pub all_round_to_0 : List (List ℕ)
all_round_to_0 =
    one_line 985284 (minus 1199) (pos 1) ∷
    one_line 985285 (minus 1199) (pos 1) ∷
    one_line 985286 (minus 1199) (pos 1) ∷
    one_line 985287 (minus 1199) (pos 1) ∷
    one_line 985288 (minus 1199) (pos 1) ∷
    one_line 985289 (minus 1199) (pos 1) ∷
    one_line 985290 (minus 1199) (pos 1) ∷
    one_line 985291 (minus 1199) (pos 1) ∷
    one_line 985292 (minus 1199) (pos 1) ∷
    one_line 985293 (minus 1199) (pos 1) ∷
    one_line 985294 (minus 1199) (pos 1) ∷
    one_line 985295 (minus 1199) (pos 1) ∷
    one_line 985296 (minus 1199) (pos 1) ∷
    one_line 985297 (minus 1199) (pos 1) ∷ []

abbrev pub both_ways : List (List ℕ)
both_ways =
    one_line 80124 (pos 1900) (minus 1) ∷
    one_line 80125 (minus 1900) (pos 1) ∷
    one_line 80126 (minus 1900) (pos 1) ∷
    one_line 80127 (pos 1900) (minus 1) ∷
    one_line 80128 (minus 1900) (pos 1) ∷
    one_line 80129 (minus 1900) (pos 1) ∷
    one_line 80130 (pos 1900) (minus 1) ∷
    one_line 80131 (minus 1900) (pos 1) ∷
    one_line 80132 (minus 1900) (pos 1) ∷
    one_line 80133 (pos 1900) (minus 1) ∷
    one_line 80134 (minus 1900) (pos 1) ∷
    one_line 80135 (minus 1900) (pos 1) ∷
    one_line 80136 (pos 1900) (minus 1) ∷
    one_line 80137 (minus 1900) (pos 1) ∷ []

abbrev pub random_0 : List (List ℕ)
random_0 =
    written 331536 2 (1 ∷ 1 ∷ 1 ∷ 1 ∷ 1 ∷ 1 ∷ 1 ∷ 1 ∷ []) (pos 2687 ∷ pos 12859 ∷ minus 13667 ∷ pos 15667 ∷ minus 130 ∷ pos 238 ∷ pos 0 ∷ minus 500000 ∷ pos 496708 ∷ pos 3337 ∷ minus 212 ∷ pos 42 ∷ pos 3008 ∷ minus 56146 ∷ pos 56146 ∷ pos 0 ∷ pos 449973 ∷ pos 450006 ∷ pos 8 ∷ minus 500000 ∷ pos 491386 ∷ pos 1345 ∷ []) ∷
    written 331537 1 (1 ∷ 1 ∷ 1 ∷ 1 ∷ 1 ∷ 0 ∷ 1 ∷ 1 ∷ []) (pos 19423 ∷ pos 9552 ∷ pos 46100 ∷ minus 43900 ∷ pos 58345 ∷ minus 58217 ∷ pos 0 ∷ pos 9676 ∷ minus 9662 ∷ minus 223 ∷ pos 10988 ∷ minus 10988 ∷ pos 463 ∷ pos 33999 ∷ minus 23333 ∷ minus 27 ∷ pos 215 ∷ minus 215 ∷ pos 0 ∷ minus 188 ∷ pos 188 ∷ pos 117 ∷ []) ∷
    written 331538 1 (1 ∷ 1 ∷ 2 ∷ 1 ∷ 1 ∷ 1 ∷ 1 ∷ 1 ∷ []) (minus 3761 ∷ pos 13477 ∷ pos 15667 ∷ minus 13667 ∷ pos 331 ∷ minus 249 ∷ minus 1081 ∷ minus 5234 ∷ minus 5034 ∷ pos 0 ∷ minus 538 ∷ pos 538 ∷ minus 724 ∷ minus 419270 ∷ minus 480710 ∷ minus 7 ∷ pos 18314 ∷ minus 18314 ∷ pos 0 ∷ pos 31362 ∷ minus 29274 ∷ []) ∷
    written 331539 3 (1 ∷ 1 ∷ 1 ∷ 1 ∷ 1 ∷ 1 ∷ 1 ∷ 0 ∷ []) (pos 3735 ∷ pos 16417 ∷ pos 15567 ∷ minus 13767 ∷ minus 4553 ∷ minus 4773 ∷ pos 1482 ∷ minus 45522 ∷ pos 45522 ∷ minus 1480 ∷ minus 18173 ∷ pos 17991 ∷ pos 0 ∷ minus 7713 ∷ minus 7314 ∷ minus 129 ∷ minus 442517 ∷ minus 442444 ∷ minus 9 ∷ minus 117 ∷ pos 219 ∷ minus 451 ∷ []) ∷
    written 331540 1 (1 ∷ 1 ∷ 1 ∷ 1 ∷ 1 ∷ 0 ∷ 1 ∷ 1 ∷ []) (pos 15767 ∷ minus 13567 ∷ minus 8858 ∷ pos 161 ∷ pos 25361 ∷ pos 6205 ∷ pos 88 ∷ pos 434474 ∷ pos 433932 ∷ pos 13 ∷ pos 10374 ∷ minus 10206 ∷ pos 0 ∷ minus 2695 ∷ minus 3287 ∷ pos 2783 ∷ minus 54544 ∷ pos 54750 ∷ pos 657 ∷ minus 28916 ∷ pos 28916 ∷ minus 323 ∷ []) ∷
    written 331541 5 (1 ∷ 1 ∷ 1 ∷ 1 ∷ 2 ∷ 1 ∷ 1 ∷ 1 ∷ []) (pos 15567 ∷ minus 13767 ∷ pos 12038 ∷ pos 4764 ∷ minus 16175 ∷ minus 16463 ∷ pos 232 ∷ pos 500000 ∷ pos 432603 ∷ pos 5 ∷ pos 54835 ∷ minus 55073 ∷ pos 0 ∷ pos 157 ∷ minus 247 ∷ minus 1287 ∷ minus 2008 ∷ pos 2204 ∷ pos 0 ∷ minus 55767 ∷ pos 54367 ∷ pos 0 ∷ pos 3500 ∷ minus 1300 ∷ pos 10915 ∷ pos 9144 ∷ pos 19459 ∷ minus 208 ∷ minus 19412 ∷ pos 3 ∷ minus 1055 ∷ pos 0 ∷ pos 2585 ∷ pos 0 ∷ pos 0 ∷ minus 1264 ∷ pos 48 ∷ []) ∷
    written 331542 3 (1 ∷ 1 ∷ 1 ∷ 1 ∷ 1 ∷ 1 ∷ 1 ∷ 1 ∷ []) (pos 15767 ∷ minus 13567 ∷ pos 14859 ∷ minus 1127 ∷ pos 12028 ∷ minus 12028 ∷ pos 0 ∷ pos 450124 ∷ pos 449855 ∷ pos 7 ∷ pos 500000 ∷ minus 500000 ∷ pos 0 ∷ pos 342 ∷ minus 138 ∷ pos 3196 ∷ pos 499874 ∷ minus 500000 ∷ pos 1829 ∷ minus 19786 ∷ pos 22126 ∷ []) ∷
    written 331543 1 (1 ∷ 2 ∷ 1 ∷ 1 ∷ 1 ∷ 1 ∷ 1 ∷ 0 ∷ []) (minus 4900 ∷ pos 7100 ∷ pos 0 ∷ pos 0 ∷ pos 206 ∷ pos 793 ∷ minus 5 ∷ pos 161 ∷ minus 161 ∷ []) ∷
    written 331544 0 (2 ∷ 1 ∷ 1 ∷ 1 ∷ 0 ∷ 1 ∷ 2 ∷ 1 ∷ []) (minus 10900 ∷ pos 13100 ∷ pos 0 ∷ pos 0 ∷ minus 32779 ∷ pos 68083 ∷ pos 87 ∷ pos 479703 ∷ minus 500000 ∷ minus 11 ∷ []) ∷
    written 331545 2 (1 ∷ 1 ∷ 2 ∷ 1 ∷ 0 ∷ 1 ∷ 0 ∷ 1 ∷ []) (pos 0 ∷ pos 1199 ∷ pos 0 ∷ pos 0 ∷ pos 1 ∷ []) ∷
    written 331546 3 (1 ∷ 1 ∷ 1 ∷ 1 ∷ 0 ∷ 1 ∷ 1 ∷ 1 ∷ []) (minus 100 ∷ pos 2300 ∷ pos 0 ∷ pos 0 ∷ pos 51958 ∷ minus 38689 ∷ minus 74 ∷ pos 49287 ∷ minus 62556 ∷ pos 73 ∷ []) ∷
    written 331547 7 (1 ∷ 2 ∷ 1 ∷ 0 ∷ 1 ∷ 1 ∷ 1 ∷ 0 ∷ []) (pos 0 ∷ pos 0 ∷ pos 0 ∷ pos 0 ∷ pos 0 ∷ pos 0 ∷ pos 0 ∷ pos 0 ∷ pos 0 ∷ pos 0 ∷ pos 0 ∷ pos 0 ∷ pos 0 ∷ pos 0 ∷ pos 0 ∷ pos 0 ∷ pos 0 ∷ pos 0 ∷ pos 0 ∷ pos 0 ∷ pos 0 ∷ pos 0 ∷ pos 2200 ∷ minus 200 ∷ pos 0 ∷ pos 0 ∷ pos 0 ∷ pos 1 ∷ []) ∷
    written 331548 2 (1 ∷ 1 ∷ 1 ∷ 0 ∷ 2 ∷ 1 ∷ 1 ∷ 0 ∷ []) (minus 1500 ∷ pos 3300 ∷ pos 0 ∷ pos 0 ∷ pos 34028 ∷ minus 46259 ∷ minus 1 ∷ minus 15749 ∷ pos 30556 ∷ pos 204 ∷ []) ∷
    written 331549 1 (1 ∷ 1 ∷ 1 ∷ 1 ∷ 1 ∷ 0 ∷ 0 ∷ 1 ∷ []) (pos 0 ∷ pos 600 ∷ pos 0 ∷ pos 0 ∷ pos 1 ∷ []) ∷
    written 331550 3 (2 ∷ 1 ∷ 1 ∷ 1 ∷ 1 ∷ 1 ∷ 1 ∷ 1 ∷ []) ([]) ∷
    written 331551 2 (1 ∷ 1 ∷ 0 ∷ 1 ∷ 1 ∷ 1 ∷ 1 ∷ 1 ∷ []) ([]) ∷
    written 331552 2 (1 ∷ 0 ∷ 1 ∷ 1 ∷ 1 ∷ 1 ∷ 1 ∷ 1 ∷ []) (minus 44000 ∷ pos 46000 ∷ pos 0 ∷ pos 0 ∷ minus 6409 ∷ minus 6133 ∷ minus 8 ∷ pos 500000 ∷ minus 483463 ∷ minus 217 ∷ []) ∷
    written 331553 1 (1 ∷ 1 ∷ 1 ∷ 0 ∷ 1 ∷ 1 ∷ 1 ∷ 1 ∷ []) (minus 1300 ∷ pos 3500 ∷ pos 0 ∷ pos 0 ∷ minus 43817 ∷ pos 43817 ∷ pos 0 ∷ minus 19731 ∷ pos 19731 ∷ []) ∷
    written 331554 3 (1 ∷ 2 ∷ 2 ∷ 1 ∷ 1 ∷ 1 ∷ 1 ∷ 1 ∷ []) (pos 0 ∷ pos 1199 ∷ pos 0 ∷ pos 0 ∷ pos 1 ∷ []) ∷
    written 331555 1 (1 ∷ 0 ∷ 1 ∷ 2 ∷ 0 ∷ 1 ∷ 1 ∷ 2 ∷ []) (pos 0 ∷ pos 1199 ∷ pos 0 ∷ pos 0 ∷ pos 1 ∷ []) ∷
    written 331556 2 (1 ∷ 1 ∷ 1 ∷ 1 ∷ 1 ∷ 0 ∷ 0 ∷ 1 ∷ []) (pos 0 ∷ minus 600 ∷ pos 0 ∷ pos 0 ∷ pos 1 ∷ []) ∷
    written 331557 3 (1 ∷ 2 ∷ 1 ∷ 1 ∷ 1 ∷ 1 ∷ 1 ∷ 1 ∷ []) (minus 5100 ∷ pos 6900 ∷ pos 0 ∷ pos 0 ∷ pos 112 ∷ minus 112 ∷ pos 0 ∷ pos 14972 ∷ pos 15027 ∷ minus 7 ∷ []) ∷
    written 331558 3 (1 ∷ 1 ∷ 1 ∷ 2 ∷ 1 ∷ 1 ∷ 1 ∷ 1 ∷ []) (minus 100 ∷ pos 2300 ∷ pos 0 ∷ pos 0 ∷ pos 42550 ∷ minus 28715 ∷ minus 1 ∷ pos 25267 ∷ minus 39023 ∷ pos 87 ∷ []) ∷
    written 331559 1 (0 ∷ 1 ∷ 1 ∷ 1 ∷ 1 ∷ 0 ∷ 0 ∷ 2 ∷ []) (pos 0 ∷ pos 1200 ∷ pos 0 ∷ pos 0 ∷ pos 1 ∷ []) ∷
    written 331560 2 (1 ∷ 1 ∷ 1 ∷ 1 ∷ 1 ∷ 1 ∷ 1 ∷ 1 ∷ []) (minus 200 ∷ pos 2200 ∷ pos 0 ∷ pos 0 ∷ pos 74854 ∷ pos 75145 ∷ minus 1 ∷ pos 99 ∷ minus 99 ∷ []) ∷
    written 331561 3 (0 ∷ 1 ∷ 1 ∷ 1 ∷ 1 ∷ 1 ∷ 1 ∷ 1 ∷ []) ([]) ∷
    written 331562 2 (1 ∷ 1 ∷ 1 ∷ 1 ∷ 1 ∷ 1 ∷ 2 ∷ 1 ∷ []) ([]) ∷
    written 331563 3 (1 ∷ 1 ∷ 1 ∷ 1 ∷ 1 ∷ 1 ∷ 1 ∷ 1 ∷ []) (pos 30900 ∷ minus 29100 ∷ pos 16237 ∷ pos 8539 ∷ pos 243944 ∷ pos 230404 ∷ pos 22 ∷ pos 32618 ∷ minus 66969 ∷ pos 78 ∷ minus 313 ∷ pos 199 ∷ minus 1208 ∷ minus 38829 ∷ pos 38711 ∷ pos 3400 ∷ minus 120 ∷ minus 16 ∷ pos 3867 ∷ pos 14471 ∷ minus 14471 ∷ []) ∷
    written 331564 0 (1 ∷ 0 ∷ 1 ∷ 1 ∷ 1 ∷ 1 ∷ 1 ∷ 1 ∷ []) (pos 15767 ∷ minus 13567 ∷ minus 1978 ∷ pos 9524 ∷ pos 442220 ∷ pos 441671 ∷ pos 8 ∷ minus 6811 ∷ pos 22878 ∷ pos 279 ∷ minus 257 ∷ pos 257 ∷ pos 0 ∷ minus 42917 ∷ pos 41069 ∷ minus 1896 ∷ pos 17524 ∷ minus 17524 ∷ pos 3565 ∷ minus 115 ∷ pos 115 ∷ pos 3835 ∷ []) ∷
    written 331565 4 (2 ∷ 1 ∷ 1 ∷ 0 ∷ 1 ∷ 1 ∷ 2 ∷ 1 ∷ []) (minus 100 ∷ pos 2300 ∷ pos 6464 ∷ minus 6612 ∷ pos 184942 ∷ pos 185124 ∷ minus 1 ∷ pos 14948 ∷ pos 14733 ∷ minus 275 ∷ minus 58565 ∷ pos 46979 ∷ pos 0 ∷ pos 46309 ∷ minus 46529 ∷ pos 2345 ∷ minus 500000 ∷ pos 500000 ∷ minus 735 ∷ minus 248 ∷ pos 248 ∷ pos 0 ∷ pos 3500 ∷ minus 1300 ∷ pos 4432 ∷ pos 3556 ∷ minus 23987 ∷ minus 2 ∷ pos 46529 ∷ minus 98363 ∷ pos 0 ∷ minus 1109 ∷ pos 13 ∷ pos 2075 ∷ minus 35 ∷ pos 0 ∷ pos 773 ∷ []) ∷
    written 331566 3 (0 ∷ 1 ∷ 1 ∷ 0 ∷ 0 ∷ 1 ∷ 0 ∷ 1 ∷ []) (minus 200 ∷ pos 2200 ∷ pos 12296 ∷ minus 991 ∷ minus 32653 ∷ pos 57697 ∷ minus 127 ∷ pos 187669 ∷ pos 187181 ∷ pos 0 ∷ pos 173 ∷ minus 155 ∷ pos 0 ∷ minus 50083 ∷ pos 53187 ∷ pos 0 ∷ minus 5361 ∷ minus 5869 ∷ pos 0 ∷ minus 271 ∷ pos 271 ∷ []) ∷
    written 331567 3 (0 ∷ 1 ∷ 1 ∷ 2 ∷ 1 ∷ 1 ∷ 1 ∷ 1 ∷ []) (pos 3300 ∷ minus 1500 ∷ minus 434 ∷ pos 17723 ∷ minus 37100 ∷ pos 49994 ∷ minus 114 ∷ pos 143287 ∷ pos 143861 ∷ pos 2 ∷ minus 53056 ∷ pos 52912 ∷ pos 0 ∷ minus 4615 ∷ minus 4087 ∷ pos 0 ∷ minus 2177 ∷ minus 2461 ∷ pos 579 ∷ pos 49639 ∷ minus 49639 ∷ []) ∷
    written 331568 2 (1 ∷ 1 ∷ 0 ∷ 1 ∷ 1 ∷ 1 ∷ 0 ∷ 1 ∷ []) (minus 1400 ∷ pos 3400 ∷ pos 0 ∷ pos 0 ∷ minus 2091 ∷ minus 19361 ∷ pos 124 ∷ pos 500000 ∷ minus 478543 ∷ minus 113 ∷ []) ∷
    written 331569 2 (1 ∷ 1 ∷ 1 ∷ 2 ∷ 1 ∷ 1 ∷ 1 ∷ 1 ∷ []) (pos 0 ∷ minus 600 ∷ pos 0 ∷ pos 0 ∷ pos 1 ∷ []) ∷
    written 331570 3 (1 ∷ 1 ∷ 1 ∷ 1 ∷ 1 ∷ 1 ∷ 1 ∷ 1 ∷ []) (pos 0 ∷ minus 600 ∷ pos 0 ∷ pos 0 ∷ pos 1 ∷ []) ∷
    written 331571 1 (1 ∷ 1 ∷ 1 ∷ 1 ∷ 1 ∷ 1 ∷ 1 ∷ 1 ∷ []) (pos 2100 ∷ minus 300 ∷ pos 0 ∷ pos 0 ∷ minus 8396 ∷ pos 8395 ∷ pos 0 ∷ minus 500000 ∷ pos 500000 ∷ []) ∷ []

abbrev pub random_1 : List (List ℕ)
random_1 =
    written 917598 0 (0 ∷ 0 ∷ 0 ∷ 0 ∷ 0 ∷ 0 ∷ 0 ∷ 4 ∷ []) (pos 2713 ∷ minus 3683 ∷ pos 3400 ∷ minus 1400 ∷ pos 403 ∷ minus 185 ∷ pos 0 ∷ minus 334 ∷ pos 266 ∷ pos 1632 ∷ minus 500000 ∷ pos 500000 ∷ minus 1153 ∷ pos 9657 ∷ pos 10068 ∷ pos 185 ∷ minus 9672 ∷ minus 10053 ∷ minus 185 ∷ minus 500000 ∷ pos 491002 ∷ []) ∷
    written 917599 1 (0 ∷ 0 ∷ 0 ∷ 0 ∷ 0 ∷ 0 ∷ 0 ∷ 0 ∷ []) (pos 0 ∷ pos 0 ∷ pos 600 ∷ pos 0 ∷ pos 0 ∷ pos 0 ∷ pos 0 ∷ pos 0 ∷ pos 0 ∷ pos 0 ∷ pos 0 ∷ pos 0 ∷ pos 0 ∷ pos 1 ∷ []) ∷
    written 917600 0 (0 ∷ 2 ∷ 0 ∷ 1 ∷ 0 ∷ 0 ∷ 0 ∷ 0 ∷ []) (pos 0 ∷ pos 0 ∷ pos 6900 ∷ minus 5100 ∷ pos 0 ∷ pos 0 ∷ pos 0 ∷ pos 0 ∷ pos 0 ∷ pos 0 ∷ pos 0 ∷ pos 0 ∷ pos 0 ∷ pos 3550 ∷ pos 2998 ∷ minus 2 ∷ pos 30223 ∷ minus 35774 ∷ minus 18 ∷ []) ∷
    written 917601 0 (0 ∷ 0 ∷ 0 ∷ 0 ∷ 0 ∷ 2 ∷ 0 ∷ 0 ∷ []) (pos 0 ∷ pos 0 ∷ pos 7100 ∷ minus 4900 ∷ pos 0 ∷ pos 0 ∷ pos 0 ∷ pos 0 ∷ pos 0 ∷ pos 0 ∷ pos 0 ∷ pos 0 ∷ pos 0 ∷ minus 26971 ∷ pos 52586 ∷ pos 99 ∷ pos 474390 ∷ minus 500000 ∷ minus 72 ∷ []) ∷
    written 917602 1 (4 ∷ 0 ∷ 4 ∷ 0 ∷ 0 ∷ 0 ∷ 0 ∷ 0 ∷ []) (pos 0 ∷ pos 0 ∷ pos 1199 ∷ pos 0 ∷ pos 0 ∷ pos 0 ∷ pos 0 ∷ pos 0 ∷ pos 0 ∷ pos 0 ∷ pos 0 ∷ pos 0 ∷ pos 0 ∷ pos 1 ∷ []) ∷
    written 917603 0 (0 ∷ 4 ∷ 0 ∷ 4 ∷ 0 ∷ 0 ∷ 0 ∷ 4 ∷ []) (pos 0 ∷ pos 0 ∷ pos 600 ∷ pos 0 ∷ pos 0 ∷ pos 0 ∷ pos 0 ∷ pos 0 ∷ pos 0 ∷ pos 0 ∷ pos 0 ∷ pos 0 ∷ pos 0 ∷ pos 1 ∷ []) ∷
    written 917604 0 (0 ∷ 0 ∷ 4 ∷ 0 ∷ 0 ∷ 0 ∷ 0 ∷ 4 ∷ []) (minus 6384 ∷ pos 11639 ∷ minus 12434 ∷ pos 14233 ∷ pos 116 ∷ minus 60 ∷ pos 0 ∷ pos 106 ∷ minus 294 ∷ pos 1069 ∷ minus 488676 ∷ pos 500000 ∷ pos 0 ∷ pos 406222 ∷ pos 500000 ∷ pos 1 ∷ pos 36834 ∷ minus 43084 ∷ pos 247 ∷ pos 40345 ∷ minus 40183 ∷ pos 1347 ∷ []) ∷
    written 917605 0 (4 ∷ 0 ∷ 0 ∷ 2 ∷ 2 ∷ 0 ∷ 0 ∷ 0 ∷ []) (pos 18405 ∷ pos 10156 ∷ minus 4900 ∷ pos 7100 ∷ pos 40132 ∷ minus 40132 ∷ pos 0 ∷ pos 35433 ∷ minus 35653 ∷ pos 0 ∷ pos 31348 ∷ minus 31448 ∷ pos 1218 ∷ pos 482673 ∷ minus 500000 ∷ pos 2 ∷ pos 18917 ∷ pos 18388 ∷ pos 117 ∷ minus 15683 ∷ pos 15683 ∷ pos 1552 ∷ []) ∷
    written 917606 0 (0 ∷ 2 ∷ 0 ∷ 0 ∷ 2 ∷ 0 ∷ 0 ∷ 1 ∷ []) (minus 8140 ∷ minus 8940 ∷ pos 7100 ∷ minus 4900 ∷ pos 61106 ∷ minus 55544 ∷ pos 1786 ∷ minus 500000 ∷ pos 500000 ∷ pos 1611 ∷ minus 226 ∷ pos 134 ∷ minus 1663 ∷ minus 6151 ∷ pos 8684 ∷ minus 162 ∷ minus 1355 ∷ minus 1173 ∷ pos 189 ∷ minus 1303 ∷ minus 1483 ∷ []) ∷
    written 917607 0 (0 ∷ 0 ∷ 0 ∷ 0 ∷ 0 ∷ 0 ∷ 4 ∷ 0 ∷ []) (minus 29100 ∷ pos 30900 ∷ pos 0 ∷ pos 0 ∷ minus 5892 ∷ minus 5859 ∷ minus 5 ∷ pos 23299 ∷ minus 5540 ∷ pos 272 ∷ []) ∷
    written 917608 0 (4 ∷ 0 ∷ 0 ∷ 0 ∷ 0 ∷ 0 ∷ 0 ∷ 0 ∷ []) (pos 1199 ∷ pos 0 ∷ pos 0 ∷ pos 0 ∷ pos 0 ∷ pos 0 ∷ pos 0 ∷ pos 0 ∷ pos 0 ∷ pos 0 ∷ pos 1 ∷ []) ∷
    written 917609 4 (0 ∷ 0 ∷ 0 ∷ 0 ∷ 0 ∷ 0 ∷ 0 ∷ 0 ∷ []) (pos 0 ∷ pos 0 ∷ pos 0 ∷ pos 0 ∷ pos 0 ∷ pos 0 ∷ pos 0 ∷ pos 0 ∷ pos 0 ∷ pos 0 ∷ pos 0 ∷ pos 0 ∷ pos 0 ∷ pos 0 ∷ pos 0 ∷ pos 0 ∷ pos 0 ∷ pos 0 ∷ pos 0 ∷ pos 0 ∷ pos 0 ∷ pos 0 ∷ pos 3400 ∷ minus 1400 ∷ pos 0 ∷ pos 0 ∷ pos 423110 ∷ pos 4 ∷ minus 6405 ∷ minus 188 ∷ []) ∷
    written 917610 0 (0 ∷ 0 ∷ 0 ∷ 0 ∷ 0 ∷ 0 ∷ 0 ∷ 4 ∷ []) ([]) ∷
    written 917611 0 (0 ∷ 0 ∷ 0 ∷ 0 ∷ 0 ∷ 0 ∷ 0 ∷ 0 ∷ []) ([]) ∷
    written 917612 0 (0 ∷ 0 ∷ 0 ∷ 0 ∷ 0 ∷ 0 ∷ 4 ∷ 0 ∷ []) (pos 1199 ∷ pos 0 ∷ pos 0 ∷ pos 0 ∷ pos 0 ∷ pos 0 ∷ pos 0 ∷ pos 0 ∷ pos 0 ∷ pos 0 ∷ pos 1 ∷ []) ∷
    written 917613 0 (0 ∷ 4 ∷ 0 ∷ 1 ∷ 0 ∷ 0 ∷ 0 ∷ 0 ∷ []) ([]) ∷
    written 917614 0 (0 ∷ 1 ∷ 0 ∷ 0 ∷ 0 ∷ 0 ∷ 0 ∷ 0 ∷ []) (minus 1 ∷ pos 0 ∷ pos 0 ∷ pos 0 ∷ pos 0 ∷ pos 0 ∷ pos 0 ∷ pos 0 ∷ pos 0 ∷ pos 0 ∷ pos 1 ∷ []) ∷
    written 917615 0 (0 ∷ 0 ∷ 0 ∷ 0 ∷ 0 ∷ 0 ∷ 0 ∷ 0 ∷ []) ([]) ∷
    written 917616 0 (0 ∷ 0 ∷ 2 ∷ 2 ∷ 0 ∷ 4 ∷ 0 ∷ 0 ∷ []) ([]) ∷
    written 917617 2 (0 ∷ 0 ∷ 0 ∷ 0 ∷ 4 ∷ 0 ∷ 0 ∷ 0 ∷ []) ([]) ∷
    written 917618 0 (0 ∷ 0 ∷ 0 ∷ 0 ∷ 0 ∷ 0 ∷ 0 ∷ 0 ∷ []) (pos 2200 ∷ minus 200 ∷ pos 0 ∷ pos 0 ∷ minus 25418 ∷ pos 25418 ∷ pos 0 ∷ minus 192 ∷ pos 191 ∷ []) ∷
    written 917619 0 (0 ∷ 4 ∷ 0 ∷ 0 ∷ 0 ∷ 0 ∷ 0 ∷ 0 ∷ []) (minus 28900 ∷ minus 5346 ∷ pos 31100 ∷ pos 9027 ∷ pos 17043 ∷ minus 11931 ∷ pos 44 ∷ pos 499880 ∷ minus 500000 ∷ pos 0 ∷ pos 500000 ∷ minus 496576 ∷ pos 0 ∷ pos 3136 ∷ pos 5348 ∷ pos 0 ∷ pos 500000 ∷ minus 500000 ∷ pos 2604 ∷ minus 76788 ∷ minus 123213 ∷ minus 26 ∷ []) ∷
    written 917620 0 (0 ∷ 4 ∷ 1 ∷ 0 ∷ 0 ∷ 0 ∷ 0 ∷ 0 ∷ []) (pos 7000 ∷ minus 5446 ∷ minus 5000 ∷ pos 6179 ∷ minus 136 ∷ pos 136 ∷ pos 0 ∷ minus 172 ∷ pos 366 ∷ pos 1528 ∷ pos 541 ∷ minus 29 ∷ pos 0 ∷ pos 25017 ∷ minus 26787 ∷ pos 0 ∷ pos 41 ∷ pos 187 ∷ minus 1932 ∷ minus 5474 ∷ minus 4939 ∷ pos 1 ∷ []) ∷
    written 917621 4 (4 ∷ 0 ∷ 0 ∷ 4 ∷ 0 ∷ 4 ∷ 0 ∷ 0 ∷ []) (minus 5667 ∷ pos 7667 ∷ minus 7467 ∷ pos 11216 ∷ minus 464117 ∷ minus 435839 ∷ minus 5 ∷ minus 728 ∷ pos 728 ∷ pos 0 ∷ minus 40655 ∷ pos 40655 ∷ pos 0 ∷ pos 31708 ∷ minus 31708 ∷ pos 0 ∷ pos 1647 ∷ pos 1527 ∷ pos 1046 ∷ pos 45598 ∷ minus 45410 ∷ minus 1626 ∷ minus 29100 ∷ pos 30900 ∷ pos 9682 ∷ minus 1546 ∷ minus 28283 ∷ minus 8 ∷ pos 22235 ∷ pos 96808 ∷ pos 0 ∷ pos 0 ∷ pos 102 ∷ pos 0 ∷ pos 4617 ∷ []) ∷
    written 917622 2 (0 ∷ 0 ∷ 0 ∷ 0 ∷ 0 ∷ 0 ∷ 0 ∷ 0 ∷ []) (minus 43900 ∷ pos 46100 ∷ pos 9855 ∷ pos 9615 ∷ minus 66401 ∷ minus 66933 ∷ minus 28 ∷ pos 22745 ∷ minus 22745 ∷ pos 0 ∷ minus 42 ∷ pos 42 ∷ pos 0 ∷ minus 9166 ∷ pos 8992 ∷ pos 0 ∷ minus 190 ∷ pos 190 ∷ pos 0 ∷ pos 4488 ∷ pos 4530 ∷ []) ∷
    written 917623 0 (0 ∷ 2 ∷ 0 ∷ 0 ∷ 0 ∷ 0 ∷ 0 ∷ 4 ∷ []) (minus 12334 ∷ pos 12732 ∷ pos 14333 ∷ pos 5718 ∷ minus 25747 ∷ pos 25851 ∷ pos 0 ∷ minus 85 ∷ pos 85 ∷ pos 0 ∷ minus 172 ∷ pos 42 ∷ minus 127 ∷ pos 103 ∷ minus 177 ∷ pos 339 ∷ minus 298 ∷ pos 298 ∷ pos 2172 ∷ minus 449967 ∷ minus 450022 ∷ minus 1 ∷ []) ∷
    written 917624 1 (2 ∷ 0 ∷ 0 ∷ 0 ∷ 0 ∷ 0 ∷ 0 ∷ 4 ∷ []) (minus 1500 ∷ pos 6712 ∷ pos 3300 ∷ pos 13904 ∷ pos 158 ∷ minus 158 ∷ pos 294 ∷ minus 2292 ∷ pos 2292 ∷ pos 0 ∷ minus 250 ∷ pos 250 ∷ pos 193 ∷ pos 3849 ∷ pos 3501 ∷ pos 0 ∷ pos 1672 ∷ pos 1908 ∷ pos 3588 ∷ pos 499999 ∷ minus 500000 ∷ minus 1 ∷ []) ∷
    written 917625 0 (0 ∷ 0 ∷ 0 ∷ 4 ∷ 0 ∷ 0 ∷ 1 ∷ 4 ∷ []) (pos 13100 ∷ pos 0 ∷ minus 10900 ∷ pos 0 ∷ pos 0 ∷ pos 0 ∷ pos 0 ∷ pos 0 ∷ pos 0 ∷ pos 0 ∷ pos 0 ∷ pos 0 ∷ pos 0 ∷ pos 0 ∷ pos 0 ∷ pos 0 ∷ pos 0 ∷ pos 0 ∷ pos 0 ∷ pos 150 ∷ minus 151 ∷ pos 10 ∷ []) ∷
    written 917626 0 (0 ∷ 0 ∷ 0 ∷ 0 ∷ 0 ∷ 2 ∷ 0 ∷ 0 ∷ []) ([]) ∷
    written 917627 0 (0 ∷ 0 ∷ 0 ∷ 0 ∷ 0 ∷ 0 ∷ 0 ∷ 0 ∷ []) (pos 0 ∷ pos 1 ∷ pos 0 ∷ pos 0 ∷ minus 1 ∷ []) ∷
    written 917628 0 (0 ∷ 0 ∷ 0 ∷ 0 ∷ 4 ∷ 0 ∷ 0 ∷ 4 ∷ []) (pos 0 ∷ pos 0 ∷ minus 1200 ∷ pos 0 ∷ pos 0 ∷ pos 0 ∷ pos 0 ∷ pos 0 ∷ pos 0 ∷ pos 0 ∷ pos 0 ∷ pos 0 ∷ pos 0 ∷ pos 0 ∷ pos 0 ∷ pos 0 ∷ pos 0 ∷ pos 0 ∷ pos 0 ∷ minus 1 ∷ []) ∷
    written 917629 0 (0 ∷ 0 ∷ 0 ∷ 0 ∷ 0 ∷ 0 ∷ 0 ∷ 0 ∷ []) ([]) ∷
    written 917630 0 (0 ∷ 0 ∷ 0 ∷ 2 ∷ 0 ∷ 1 ∷ 4 ∷ 0 ∷ []) (pos 30900 ∷ pos 0 ∷ minus 29100 ∷ pos 0 ∷ pos 0 ∷ pos 0 ∷ pos 0 ∷ pos 0 ∷ pos 0 ∷ pos 0 ∷ pos 0 ∷ pos 0 ∷ pos 0 ∷ pos 0 ∷ pos 0 ∷ pos 0 ∷ pos 0 ∷ pos 0 ∷ pos 0 ∷ minus 2705 ∷ minus 3295 ∷ []) ∷
    written 917631 2 (1 ∷ 1 ∷ 4 ∷ 0 ∷ 0 ∷ 0 ∷ 0 ∷ 0 ∷ []) (pos 0 ∷ pos 1 ∷ pos 0 ∷ pos 0 ∷ minus 1 ∷ []) ∷
    written 917632 0 (0 ∷ 0 ∷ 4 ∷ 0 ∷ 0 ∷ 0 ∷ 0 ∷ 0 ∷ []) (pos 45900 ∷ minus 44100 ∷ pos 19532 ∷ minus 8697 ∷ pos 35272 ∷ minus 35951 ∷ pos 13 ∷ minus 17423 ∷ pos 17423 ∷ pos 0 ∷ minus 30781 ∷ pos 30897 ∷ pos 2430 ∷ minus 30135 ∷ pos 30245 ∷ pos 0 ∷ pos 3827 ∷ pos 3581 ∷ pos 0 ∷ minus 13212 ∷ pos 13212 ∷ []) ∷
    written 917633 4 (0 ∷ 0 ∷ 0 ∷ 0 ∷ 0 ∷ 0 ∷ 0 ∷ 0 ∷ []) (pos 7100 ∷ minus 443 ∷ minus 4900 ∷ pos 9548 ∷ minus 18155 ∷ pos 17935 ∷ pos 0 ∷ pos 29698 ∷ minus 29912 ∷ minus 31 ∷ minus 32607 ∷ pos 32581 ∷ minus 1086 ∷ minus 346 ∷ pos 336 ∷ minus 779 ∷ pos 22773 ∷ minus 22787 ∷ pos 0 ∷ minus 500000 ∷ pos 448038 ∷ pos 4 ∷ minus 4900 ∷ minus 7883 ∷ pos 7100 ∷ pos 14498 ∷ pos 3008 ∷ pos 1701 ∷ pos 0 ∷ pos 0 ∷ pos 0 ∷ minus 1188 ∷ pos 0 ∷ pos 3213 ∷ pos 0 ∷ minus 513 ∷ minus 1 ∷ minus 10 ∷ []) ∷ []
