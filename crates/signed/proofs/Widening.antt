-- A number held in a narrow type and cast to one at least as wide: the cast fits, and gives what was held.
-- Assumes nothing.
use mathlib.Core.Path.{◌≡◌}
use Prim.Native.Nat.{◌<◌, ◌^◌}
use lib.Dec.{T, leb}
use lib.IntN.{ℤ}
use lib.Signed.{mag}
use mir.Syntax.{Width}
use mir.Val.{hbits, SFits, to_z, of_z}
use mir.Facts.{Fits-of_z, sfits_to_z, sfits_widen, to_z-of_z}
use borrow.Author.Rules.{sfits_of}

module _ (narrow wide : Width) (wider : T (leb (hbits narrow) (hbits wide))) (z : ℤ) (held : mag z < 2 ^ hbits narrow) where
  -- What the narrow type gives back fits the wide one,
  pub cast_fits : SFits wide (to_z narrow (of_z narrow z))
  cast_fits = sfits_widen {w = narrow} wider (sfits_to_z {w = narrow} (Fits-of_z {z = z} (sfits_of held)))

  -- and the wide one gives back the same.
  pub cast_same : to_z wide (of_z wide (to_z narrow (of_z narrow z))) ≡ to_z narrow (of_z narrow z)
  cast_same = to_z-of_z {w = wide} cast_fits
