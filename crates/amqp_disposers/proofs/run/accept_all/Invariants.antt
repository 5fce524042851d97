use Rattle.amqp_disposers.proofs.run.accept_all.Given as goal

abbrev pub ghosts-run_at-L-DeskName : goal.ghosts-run_at-L-DeskName
ghosts-run_at-L-DeskName g a = record { book = a.book.book }

abbrev pub ghosts-run_at-L-Ledger : goal.ghosts-run_at-L-Ledger
ghosts-run_at-L-Ledger g a = record { name = a.blank.name; parts = a.blank.parts }
