use Rattle.amqp_disposers.proofs.run.accept_by_ticket.Given as goal

abbrev pub ghosts-take_turns : goal.ghosts-take_turns
ghosts-take_turns g a = record { book = a.book.book }
