use Rattle.thread_tests.proofs.tests.watches.each_change_is_told_once_and_in_order.Given as goal

-- the list that was just made
abbrev pub ghosts-changes_are_told : goal.ghosts-changes_are_told
ghosts-changes_are_told g a = record { book = a.list }
