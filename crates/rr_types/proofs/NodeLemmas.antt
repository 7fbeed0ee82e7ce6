-- A set of nodes stays below 128 when a node joins, and two sets are joined node by node.
use Rattle.std.proofs.Common.{◌≡◌, ◌≢◌, ◌+◌, ◌*◌, ◌/◌, ◌%◌, ◌^◌, ◌<◌, ℕ, zero, suc, arith, false, refl, if◌then◌else◌}
use Rattle.std.proofs.lemmas.Bool.{eqb-false}
use Rattle.rr_types.specs.Nodes.{has_member, with_member, joined_below}

-- a clear bit below the seventh leaves room for its value below 128
room_at : (s p : ℕ) → s < 128 → p < 7 → (s / 2 ^ p) % 2 ≢ 1 → s + 1 * 2 ^ p % 256 < 128
room_at s zero h l n = omega arith
room_at s (suc zero) h l n = omega arith
room_at s (suc (suc zero)) h l n = omega arith
room_at s (suc (suc (suc zero))) h l n = omega arith
room_at s (suc (suc (suc (suc zero)))) h l n = omega arith
room_at s (suc (suc (suc (suc (suc zero))))) h l n = omega arith
room_at s (suc (suc (suc (suc (suc (suc zero)))))) h l n = omega arith
room_at s (suc (suc (suc (suc (suc (suc (suc p))))))) h l n = omega arith

-- the same, where the set lacks the node
pub room_for : (s p : ℕ) → s < 128 → p < 7 → has_member s p ≡ false → s + 1 * 2 ^ p % 256 < 128
room_for s p h l n = room_at s p h l (eqb-false _ _ n)

-- one node more of the second set
pub joined_more : (n q a b : ℕ) → n ≡ q + 1 → joined_below n a b ≡ joined_below q (if has_member b q then with_member a q else a) b
joined_more n q a b e = let f : n ≡ suc q = omega arith in rw f refl
