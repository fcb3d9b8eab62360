-- An entry of the table of steps as a step. No promise cites this.
use Rattle.std.specs.Prelude.{ℤ}
use Rattle.std.specs.Int.{w16}
use Rattle.std.proofs.Common.{to_z, of_z}
use Rattle.units.specs.declared.Hundredths.{Hundredths}
use Rattle.units.specs.Units.{hundredths}

-- z as 16 bits hold it, read with its sign, in hundredths of a MW
abbrev pub widened : ℤ → Hundredths
widened z = hundredths (to_z w16 (of_z w16 z))
