-- Document 01, "Money, flow and the eight directions".
use Rattle.std.specs.Prelude.{Bool, List, [], ◌∷◌, ℕ, ◌/◌, ◌%◌, leb, eqb, pos, get_or}
use Rattle.signed.specs.Range.{minus, within}
use Rattle.units.specs.declared.Cents.{Cents}
use Rattle.units.specs.declared.Hundredths.{Hundredths}
use Rattle.rules.specs.declared.Region.{Region}
use Rattle.rules.specs.declared.Region.TheVariants.{Nsw1, Qld1, Sa1, Vic1}
use Rattle.rules.specs.declared.Corridor.{Corridor}

-- Prices are whole cents per MWh, -100,000 to 3,000,000.
abbrev pub price_ok : Cents → Bool
price_ok p = within (minus 100000) (pos 3000000) p.0

-- Flows are hundredths of a MW, -500,000 to 500,000;
abbrev pub flow_ok : Hundredths → Bool
flow_ok f = within (minus 500000) (pos 500000) f.0

-- losses likewise, -100,000 to 100,000.
abbrev pub loss_ok : Hundredths → Bool
loss_ok l = within (minus 100000) (pos 100000) l.0

-- Regions 0-3: NSW1, QLD1, SA1, VIC1.
abbrev pub region_number : Region → ℕ
region_number Nsw1 = 0
region_number Qld1 = 1
region_number Sa1 = 2
region_number Vic1 = 3

-- Physical interconnectors 0-5: NSW1-QLD1, N-Q-MNSP1, VIC1-NSW1, V-SA, V-S-MNSP1, NSW1-SA1.
-- Corridors 0-3, From to To: NSW1 to QLD1 (physical 0, 1); VIC1 to NSW1 (2); VIC1 to SA1 (3, 4); NSW1 to SA1 (5).
abbrev pub corridors : List Corridor
corridors =
    record { from = Nsw1; to = Qld1; first = 0; lines = 2 }
    ∷ record { from = Vic1; to = Nsw1; first = 2; lines = 1 }
    ∷ record { from = Vic1; to = Sa1; first = 3; lines = 2 }
    ∷ record { from = Nsw1; to = Sa1; first = 5; lines = 1 }
    ∷ []

-- (There is no corridor above 3.)
abbrev pub corridor : ℕ → Corridor
corridor c = get_or corridors c (record { from = Nsw1; to = Nsw1; first = 0; lines = 0 })

-- Direction 2c is From_To of corridor c, 2c+1 is To_From.
abbrev pub corridor_of : ℕ → ℕ
corridor_of d = d / 2

abbrev pub reverse : ℕ → Bool
reverse d = eqb (d % 2) 1

-- One value for each of the eight directions, in their order.
abbrev pub of_directions : {A : Type 0} → (ℕ → A) → List A
of_directions f = f 0 ∷ f 1 ∷ f 2 ∷ f 3 ∷ f 4 ∷ f 5 ∷ f 6 ∷ f 7 ∷ []

-- Corridors 1-3 form the loop: directions 2-7.
abbrev pub in_loop : ℕ → Bool
in_loop d = leb 2 d
