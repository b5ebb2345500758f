-- Refusals in a play: which replies are one, and which of them ends the play.
use Rattle.std.specs.Prelude.{◌≡◌, Bool, true, false, ◌&&◌, List, [], ◌∷◌, ◌++◌}
use Rattle.tl_jobs.specs.declared.replies.ReplyBody.{ReplyBody}
use Rattle.tl_jobs.specs.declared.replies.ReplyBody.TheVariants as body
use Rattle.tl_jobs.specs.Turns.{Turn, Each}

-- whether a reply with this body is a refusal
abbrev pub is_refusal : ReplyBody → Bool
is_refusal (body.Rows answer) = false
is_refusal body.Done = false
is_refusal (body.Refused f) = true
is_refusal body.DeviceFault = false
is_refusal body.BrokenJournal = false

-- no turn is refused
abbrev pub AreAccepted : List Turn → Type 0
AreAccepted turns = Each (λ t. is_refusal t.reply.body ≡ false) turns

-- the last of the turns is refused, and no other
pub record EndInRefusal (turns : List Turn) : Type 0 where
  pub front : List Turn
  pub last : Turn
  pub these : turns ≡ front ++ last ∷ []
  pub accepted : AreAccepted front
  pub refused : is_refusal last.reply.body ≡ true

-- no turn ends a play: where a refusal ends it none is refused, and else none ever does
abbrev pub GoOn : Bool → List Turn → Type 0
GoOn stops turns = Each (λ t. (stops && is_refusal t.reply.body) ≡ false) turns
