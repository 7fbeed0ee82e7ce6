use Rattle.rr_threads.proofs.node_run.run_part.Given as goal

abbrev pub ghosts-run_window : goal.ghosts-run_window
ghosts-run_window g a = record { book = a.list }
