-- Records end to end, one by one.
-- Assumes nothing.
use mathlib.Core.Path.{◌≡◌, refl, ap, ◌∙◌}
use mathlib.Core.List.{List, []}
use Prim.Native.Nat.{ℕ, zero, suc, ◌+◌, ◌*◌, ◌<◌}
use native.Mathlib.Omega.{arith}
use lib.ListN.{length, get_or, take, drop}
use lib.Seq.{drop-drop}
use Rattle.std.specs.Simd.{first_chunks}
use Rattle.rules.specs.Record.{record_length, record_count, record_at, records_in}

chunk_at : (n k : ℕ) (r : List ℕ) (i : ℕ) → i < k → get_or (first_chunks n k r) i [] ≡ take n (drop (n * i) r)
chunk_at n zero r i h = absurd (omega arith)
chunk_at n (suc k) r zero h = let e : n * 0 ≡ 0 = omega arith in rw e
chunk_at n (suc k) r (suc i) h =
    let e : n + n * i ≡ n * suc i = omega arith in
    chunk_at n k (drop n r) i (omega arith) ∙ ap (take n) (drop-drop (n * i) n r ∙ ap (λ (m : ℕ). drop m r) e)

chunk_count : (n k : ℕ) (r : List ℕ) → length (first_chunks n k r) ≡ k
chunk_count n zero r = refl
chunk_count n (suc k) r = ap suc (chunk_count n k (drop n r))

-- which one stands where, and how many there are
pub record_in : (r : List ℕ) (i : ℕ) → i < record_count r → get_or (records_in r) i [] ≡ record_at r i
record_in r i h = chunk_at record_length (record_count r) r i h

pub how_many : (r : List ℕ) → length (records_in r) ≡ record_count r
how_many r = chunk_count record_length (record_count r) r
