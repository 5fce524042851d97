use Rattle.few_frames.proofs.Lives.{session_writes_few}
use Rattle.few_frames.proofs.Receivers.{receiver_writes_few, receiver_drains_few}
use Rattle.few_frames.proofs.Senders.{sender_writes_few}
use Rattle.few_frames.proofs.few.lives_few.Goals as goal

pub returns-clause-session : goal.returns-clause-session
returns-clause-session c = session_writes_few

pub returns-clause-sender : goal.returns-clause-sender
returns-clause-sender c = sender_writes_few

pub returns-clause-receiver : goal.returns-clause-receiver
returns-clause-receiver c = receiver_writes_few

pub returns-clause-drains : goal.returns-clause-drains
returns-clause-drains c = receiver_drains_few
