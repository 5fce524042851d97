-- What is sent of a message as it is written, and what is not.
use Rattle.std.proofs.Common.{◌≡◌, ◌∙◌, ℕ, Some, None, Result, Ok, Err, sym, subst}
use Rattle.amqp_messages.specs.declared.message.Message.{Message}
use Rattle.amqp_messages.specs.declared.message.Body.{Body}
use Rattle.amqp_messages.specs.Message.{Said, seen}
use Rattle.amqp_messages.specs.Writing.{message_items, AllFit}
use Rattle.amqp_link_words.specs.declared.link_call.Sendable.{Sendable}
use Rattle.amqp_link_words.specs.declared.link_call.LinkCall.TheVariants.{Send, SendTimed}
use Rattle.amqp_script.specs.declared.script.line_error.LineError.{LineError}
use Rattle.amqp_script.specs.declared.script.line_error.LineError.TheVariants.{Memory, Outside}
use Rattle.amqp_script.specs.Fields.{Says}
use Rattle.amqp_link_script.specs.declared.messages.Written.{Written}
use Rattle.amqp_link_script.specs.declared.messages.Encoded.{Encoded}
use Rattle.amqp_link_script.specs.Messages.{Made, form_in, IsTheMessageOf, IsCanonical, IsEncoded, IsSent, IsCall}

-- the canonical bytes of the one message that is written
pub encoded_of : (form : Written) (m : Message Body) (r : Result Encoded LineError) → IsTheMessageOf form (Ok m) → IsCanonical (seen m) r → Made (IsEncoded form) r
encoded_of form m (Ok x) one h = record { message = seen m; means = one.0; fits = h.2; bytes = h.0; body = h.1 }
encoded_of form m (Err Outside) one h = λ x is. h (subst (λ (y : Message Said). AllFit (message_items y)) (sym (one.1 is.message is.means)) is.fits)
encoded_of form m (Err (Memory a)) one h = tt

-- no message is written
pub no_message : (form : Written) (e : LineError) → IsTheMessageOf form (Err e) → Made (IsEncoded form) (Err e)
no_message form Outside none = λ x is. none is.message is.means
no_message form (Memory a) none = tt

-- what stands there is written in no form
pub no_form : (written : Sendable) (e : LineError) → Says {A = Written} (form_in written.payload) (Err e) → Made (IsSent written) (Err e)
no_form written Outside none = λ sent is. let no : None ≡ Some is.form = sym none ∙ is.said in cc
no_form written (Memory a) none = tt

form_is : (written sent : Sendable) (form : Written) → form_in written.payload ≡ Some form → (is : IsSent written sent) → is.form ≡ form
form_is written sent form said is = let same : Some is.form ≡ Some form = sym is.said ∙ said in cc

-- it is no message, or has no canonical bytes
pub no_bytes : (written : Sendable) (form : Written) (e : LineError) → form_in written.payload ≡ Some form → Made (IsEncoded form) (Err e) → Made (IsSent written) (Err e)
no_bytes written form Outside said none = λ sent is. none (record { bytes = sent.payload; has_body = sent.has_body }) (subst (λ (f : Written). IsEncoded f (record { bytes = sent.payload; has_body = sent.has_body })) (form_is written sent form said is) is.encoded)
no_bytes written form (Memory a) said none = tt

-- a message that is not sent has no call
pub no_call : (sender : ℕ) (written : Sendable) (e : LineError) → Made (IsSent written) (Err e) → Made (IsCall (Send sender written)) (Err e)
no_call sender written Outside none = λ call is. none is.0 is.1.1
no_call sender written (Memory a) none = tt

pub no_timed_call : (sender : ℕ) (written : Sendable) (timeout : ℕ) (e : LineError) → Made (IsSent written) (Err e) → Made (IsCall (SendTimed sender written timeout)) (Err e)
no_timed_call sender written timeout Outside none = λ call is. none is.0 is.1.1
no_timed_call sender written timeout (Memory a) none = tt
