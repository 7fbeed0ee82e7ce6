-- The nodes so far are the first ones, with their mail and their clients; those of the set are left out; and for each that is left there is
-- a disk.
use Rattle.std.proofs.Common.{◌≡◌, ◌++◌, ◌+◌, length}
use Rattle.std.specs.Prelude.{map, All}
use Rattle.std.specs.List.{range_with_len}
use Rattle.std.specs.Vec.Iter.{into_iter_items}
use Rattle.rr_types.specs.Nodes.{has_member}
use Rattle.rr_threads.specs.Beginnings.{node_of, mail_of, is_left_out}
use Rattle.rr_threads.proofs.run.open_parts.Given as goal

abbrev pub invariant-loop-mail : goal.invariant-loop-mail
invariant-loop-mail g l =
    (map (λ p. mail_of p.0) l.parts.items ++ into_iter_items l.mail-iterator ≡ into_iter_items l.initial.mail-iterator)
    × (map (λ p. node_of p.0) l.parts.items ≡ range_with_len 0 (length l.parts.items))
    × (map (λ p. p.1) l.parts.items ++ into_iter_items l.clients ≡ l.fn.clients.items)
    × (length (into_iter_items l.disks) ≡ length (into_iter_items l.mail-iterator))
    × (length (into_iter_items l.clients) ≡ length (into_iter_items l.mail-iterator))
    × (l.index ≡ length l.parts.items)
    × (length l.parts.items + length (into_iter_items l.mail-iterator) ≡ l.nodes)
    × All (λ p. is_left_out p.0 ≡ has_member l.fn.without (node_of p.0)) l.parts.items
