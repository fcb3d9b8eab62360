-- A search for line k among lines: of these some are passed, the rest follows, and of the rest so many are to be passed.
-- Assumes nothing.
use Rattle.std.proofs.Common.{◌≡◌, ℕ, ◌+◌, ◌<◌, List, [], ◌++◌, length, get_or, refl, ap, sym, ◌∙◌, arith, append_assoc, append-nil, length-append}
use Rattle.std.proofs.lemmas.List.{get_or_append_left, get_or-append-add, get_or_past}

pub record Passed (lines : List (List ℕ)) (k : ℕ) (rest : List (List ℕ)) (to_pass : ℕ) : Type 0 where
  pub passed : List (List ℕ)
  pub parts : lines ≡ passed ++ rest
  pub count : k ≡ length passed + to_pass

pub none_passed : (lines : List (List ℕ)) (k : ℕ) → Passed lines k lines k
none_passed lines k = record { passed = []; parts = refl; count = omega arith }

module _ {lines rest : List (List ℕ)} {k to_pass : ℕ} (p : Passed lines k rest to_pass) where
  -- the line sought is in the rest, where it is among the lines
  pub found_in : get_or lines k [] ≡ get_or rest to_pass []
  found_in = rw (p.parts, p.count) (get_or-append-add p.passed rest to_pass [])

  module _ (own following : List (List ℕ)) (parts : rest ≡ own ++ following) where
    -- it is in the first part of the rest
    pub found_here : to_pass < length own → (k < length lines) × (get_or lines k [] ≡ get_or own to_pass [])
    found_here h =
        let n = ap length p.parts in
        let m = ap length parts in
        (omega (arith, p.count, length-append {A = List ℕ}), found_in ∙ rw parts (get_or_append_left own following [] to_pass h))

    -- it is beyond this part
    pub passed_on : (more : ℕ) → to_pass ≡ length own + more → Passed lines k following more
    passed_on more e = record {
      passed = p.passed ++ own;
      parts = p.parts ∙ rw parts (sym (append_assoc p.passed own following));
      count = omega (arith, p.count, e, length-append p.passed own);
    }

-- it is beyond all lines
pub all_passed : {lines : List (List ℕ)} {k to_pass : ℕ} → Passed lines k [] to_pass → (k ≡ length lines + to_pass) × (get_or lines k [] ≡ [])
all_passed {lines} {k} {to_pass} p = let n = ap length (p.parts ∙ append-nil p.passed) in (omega (arith, p.count), get_or_past lines k [] (omega (arith, p.count)))
