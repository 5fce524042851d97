-- The numbers and the windows of a session (OASIS AMQP 1.0, part 2, section 2.5.6).
use Rattle.std.specs.Prelude.{ℕ, ◌+◌, ◌-◌, ◌/◌, ◌%◌, Bool, false, nat_le, max, min, Some, None, unwrap_or, if◌then◌else◌}
use Rattle.amqp_performatives.specs.declared.begin.Begin.{Begin}
use Rattle.amqp_performatives.specs.declared.flow.Flow.{Flow}
use Rattle.amqp_session.specs.declared.windows.Windows.{Windows}

-- how far a is behind b: numbers are modulo 2^32 (section 2.8.10)
abbrev pub minus : ℕ → ℕ → ℕ
minus a b = (a + (4294967296 - b)) % 4294967296

-- the number behind this one
abbrev pub after : ℕ → ℕ
after a = (a + 1) % 4294967296

-- before anything was read nothing may be written
abbrev pub first_windows : ℕ → ℕ → ℕ → Windows
first_windows next incoming outgoing = record { incoming_window = incoming; outgoing_window = outgoing; first_outgoing_id = next; next_outgoing_id = next; next_incoming_id = 0; next_delivery_id = 0; allowance = 0; unreported = 0 }

-- What the peer can take, less what is on its way: the remote-incoming-window of the section. A Begin counts from the first transfer.
abbrev pub windows_begun : Begin → Windows → Windows
windows_begun x w = record w { next_incoming_id = x.next_outgoing_id; allowance = x.incoming_window - minus w.next_outgoing_id w.first_outgoing_id }

-- A Flow counts from its next-incoming-id; where it names none, the peer has not read the Begin, so from the first transfer.
abbrev pub windows_flowed : Flow → Windows → Windows
windows_flowed x w = record w { next_incoming_id = x.next_outgoing_id; allowance = x.incoming_window - minus w.next_outgoing_id (unwrap_or x.next_incoming_id w.first_outgoing_id) }

-- a Transfer that is read has the number that was due
abbrev pub transfer_read : Windows → Windows
transfer_read w = record w { next_incoming_id = after w.next_incoming_id; unreported = min (w.unreported + 1) 4294967295 }

-- so many transfers may be read before they are reported: half of the window, and at least one
abbrev pub report_after : Windows → ℕ
report_after w = max (w.incoming_window / 2) 1

-- a report is due
abbrev pub is_report_due : Windows → Bool
is_report_due w = nat_le (report_after w) w.unreported

-- each Begin and Flow is a report
abbrev pub reported : Windows → Windows
reported w = record w { unreported = 0 }

-- a Transfer that is written takes the next number, and one of what the peer can take; one that begins a delivery takes its number
abbrev pub windows_left : Bool → Windows → Windows
windows_left begins w = record w { next_outgoing_id = after w.next_outgoing_id; allowance = w.allowance - 1; next_delivery_id = if begins then after w.next_delivery_id else w.next_delivery_id }

-- a Flow with the state of the session: its windows as it was built (section 2.7.4)
abbrev pub stamped : Windows → Flow → Flow
stamped w x = record x { next_incoming_id = Some w.next_incoming_id; incoming_window = w.incoming_window; next_outgoing_id = w.next_outgoing_id; outgoing_window = w.outgoing_window }

-- one that speaks of no link
abbrev pub session_flow : Windows → Flow
session_flow w = record { next_incoming_id = Some w.next_incoming_id; incoming_window = w.incoming_window; next_outgoing_id = w.next_outgoing_id; outgoing_window = w.outgoing_window; handle = None; delivery_count = None; link_credit = None; available = None; drain = false; echo = false; properties = None }
