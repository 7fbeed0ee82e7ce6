use Rattle.thread_tests.proofs.tests.watches.a_watch_that_is_late_is_told_so.Given as goal

-- the list that was just made
abbrev pub ghosts-a_late_watch_is_told : goal.ghosts-a_late_watch_is_told
ghosts-a_late_watch_is_told g a = record { book = a.list }
