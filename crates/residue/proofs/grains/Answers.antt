-- The formula as a tree, whose bound computes to less than 2 ^ 63 at each step.
use Rattle.std.proofs.Common.{◌≡◌, ◌∙◌, ℕ, ℤ, pos, ap}
use Rattle.signed.proofs.Calc.{Calc, val, num, ◌⊕◌, ◌⊖◌, ◌⊗◌, meant, fits, same}
use Rattle.units.specs.declared.Cents.{Cents}
use Rattle.units.specs.Units.{grains}
use Rattle.rules.specs.declared.Line.{Line}
use Rattle.rules.specs.Residue.{grains_of}
use Rattle.residue.specs.Internal.{LineInRange}
use Rattle.residue.proofs.grains.Goals as goal

-- s is the share, as it is computed with
module _ {p q : Cents} {k : ℕ} {l : Line} (h : LineInRange p q k l) {s : ℤ} (is : s ≡ pos k) where
  abbrev share : Calc
  share = val {z = s} {n = 1000} (record { size = rw is h.share })

  abbrev losses : Calc
  losses = val {z = l.b.0} (record { size = h.losses })

  abbrev flow : Calc
  flow = num (pos 1000) ⊗ val {z = l.a.0} (record { size = h.flow })

  abbrev received : Calc
  received = flow ⊖ (num (pos 1000) ⊖ share) ⊗ losses

  abbrev sent : Calc
  sent = flow ⊕ share ⊗ losses

  abbrev bought : Calc
  bought = val {z = p.0} (record { size = h.to_price }) ⊗ received

  abbrev sold : Calc
  sold = val {z = q.0} (record { size = h.from_price }) ⊗ sent

  meant_is : grains (meant (bought ⊖ sold)) ≡ grains_of p q k l
  meant_is = rw is

pub overflow_sub-received-2 : goal.overflow_sub-received-2
overflow_sub-received-2 c = fits (received c.requires c.from-share.ensures) tt

pub overflow_add-sent : goal.overflow_add-sent
overflow_add-sent c = fits (sent c.requires c.from-share.ensures) tt

pub overflow_mul-bought : goal.overflow_mul-bought
overflow_mul-bought c = fits (bought c.requires c.from-share.ensures) tt

pub overflow_mul-sold : goal.overflow_mul-sold
overflow_mul-sold c = fits (sold c.requires c.from-share.ensures) tt

pub overflow_sub-result : goal.overflow_sub-result
overflow_sub-result c = fits (bought c.requires c.from-share.ensures ⊖ sold c.requires c.from-share.ensures) tt

pub returns : goal.returns
returns c = ap grains (same (bought c.requires c.from-share.ensures ⊖ sold c.requires c.from-share.ensures) tt) ∙ meant_is c.requires c.from-share.ensures
