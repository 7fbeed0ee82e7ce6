use Rattle.thread_tests.proofs.tests.seats.the_65th_seat_is_taken.Given as goal

-- the list that was just made
abbrev pub ghosts-seats_run_out : goal.ghosts-seats_run_out
ghosts-seats_run_out g a = record { book = a.list }
