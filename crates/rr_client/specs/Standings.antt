-- What a node is, by its switch, and which guests may still act.
use Rattle.std.specs.Prelude.{Bool, true, false, ◌&&◌, not, Option, None, Some, Result, Err}
use Rattle.rr_types.specs.declared.refusal.Refusal.{Refusal}
use Rattle.rr_client.specs.declared.error.ClusterError.{ClusterError}
use Rattle.rr_client.specs.declared.error.ClusterError.TheVariants.{Over}
use Rattle.rr_client.specs.declared.seated.Resting.{Resting}
use Rattle.rr_client.specs.declared.host.Standing.{Standing}
use Rattle.rr_client.specs.declared.host.Standing.TheVariants.{Up, Starting, Stopping, Down, Failed}

-- what a node is by its switch, by whether it is up, and by the refusal by which it went down last
abbrev pub standing_of : Bool → Bool → Option Refusal → Standing
standing_of true true failure = Up
standing_of true false failure = Starting
standing_of false true failure = Stopping
standing_of false false None = Down
standing_of false false (Some refusal) = Failed refusal

-- whether a node stays so, unless it fails or is stopped or started
abbrev pub is_settled : Standing → Bool
is_settled Starting = false
is_settled Stopping = false
is_settled _ = true

-- whether a node is down, and isn't to come up
abbrev pub is_down : Standing → Bool
is_down Down = true
is_down (Failed refusal) = true
is_down _ = false

-- whether a guest is done that gave this: it is called again where its node went down, and it says so
abbrev pub is_done_by : Result (Unit {0}) ClusterError → Bool → Bool
is_done_by (Err Over) ending = not ending
is_done_by _ ending = true

-- whether the guest of a slot asks, or may be called again by itself: it doesn't lie there, or it isn't done, and its node isn't down
abbrev pub is_asking : {G : Type 0} → Option (Resting G) → Standing → Bool
is_asking None _ = true
is_asking (Some r) standing = not r.is_done && not (is_down standing)
