use Rattle.desk_cases.proofs.answer.case_of.Given as goal

abbrev pub ghosts-case_at-L-DeskName : goal.ghosts-case_at-L-DeskName
ghosts-case_at-L-DeskName g a = record { book = a.book.book }

abbrev pub ghosts-case_at-L-Ledger : goal.ghosts-case_at-L-Ledger
ghosts-case_at-L-Ledger g a = record { name = a.blank.name; parts = a.blank.parts }
