-- The job of a node, as far as a picture has come.
use Rattle.std.specs.Prelude.{ℕ, Bool, true, false, Option, None, Some, Vec}
use Rattle.std.specs.declared.alloc.Global.{Global}
use Rattle.rr_draw.specs.declared.lane.Job.{Job}

-- a job begins, unless one runs
abbrev pub begun : ℕ → Bool → Option Job → Option Job
begun since is_switch None = Some (record { since = since; is_switch = is_switch; decides = None })
begun since is_switch (Some job) = Some job

-- the group of the job that runs is synced, and decides these instances and no others
abbrev pub synced : Vec ℕ Global → Option Job → Option Job
synced instances None = None
synced instances (Some job) = Some (record job { decides = Some instances })

-- whether a group is synced
abbrev pub is_synced : Option (Vec ℕ Global) → Bool
is_synced None = false
is_synced (Some instances) = true

-- whether there is no job, or its group is synced
abbrev pub is_idle : Option Job → Bool
is_idle None = true
is_idle (Some job) = is_synced job.decides
