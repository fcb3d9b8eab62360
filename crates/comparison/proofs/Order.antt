-- n, then direction, is an order: what one test says of the others.
-- Assumes nothing.
use Rattle.std.proofs.Common.{◌≡◌, true, false, arith}
use Rattle.comparison.specs.declared.Key.{Key}
use Rattle.comparison.specs.Comparison.{same, is_lower}

pub lower_than_lower : (p q r : Key) → is_lower p q ≡ true → is_lower q r ≡ true → is_lower p r ≡ true
lower_than_lower p q r h k = grind arith

pub never_below : (p q : Key) → is_lower p q ≡ true → is_lower q p ≡ false
never_below p q h = grind arith

pub apart : (p q : Key) → is_lower p q ≡ true → same p q ≡ false
apart p q h = grind arith

pub apart_back : (p q : Key) → is_lower p q ≡ true → same q p ≡ false
apart_back p q h = grind arith

pub same_one : (p q : Key) → same p q ≡ true → p ≡ q
same_one p q h = grind arith

pub none_lower : (p q : Key) → is_lower p q ≡ false → is_lower q p ≡ false → p ≡ q
none_lower p q h k = grind arith

pub same_back : (p q : Key) → same p q ≡ true → same q p ≡ true
same_back p q h = grind arith

pub same_by : (p q : Key) → p ≡ q → same p q ≡ true
same_by p q h = rw h (grind arith)
