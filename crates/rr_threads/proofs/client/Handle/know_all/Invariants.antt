-- The client waits, and what it knows has grown.
use Rattle.std.proofs.Common.{◌≡◌, ◌+◌, ◌≤◌, true, length}
use mathlib.Core.List.{IsPrefix}
use Rattle.rr_types.specs.Limits.{instance_count}
use Rattle.rr_threads.proofs.client.Handle.know_all.Given as goal

abbrev pub invariant-loop-looked : goal.invariant-loop-looked
invariant-loop-looked g l =
    record {
      node : l.self.node ≡ l.fn.self.node;
      wanted : l.self.wanted ≡ l.fn.self.wanted;
      later : IsPrefix l.fn.self.known l.self.known;
      rests : l.self.rests ≤ l.fn.self.rests + l.looked;
      known : l.knows ≡ true → length l.self.known ≡ instance_count;
      all : length l.fn.self.known ≡ instance_count → l.knows ≡ true;
    }
