use Rattle.std.proofs.Common.{◌∙◌, ◌++◌, List, ap, refl, ℕ}
use Rattle.peg_messages.specs.Rejections.{rejection_message}
use Rattle.peg_messages.specs.declared.rejection.Rejection.{Rejection}
use Rattle.peg_explain.proofs.refusals.message_of.Goals as goal

pub returns : goal.returns
returns c =
    let rejection : Rejection = record { name = c.args.name; file = c.args.file; reason = c.args.reason } in (
      rejection,
      refl,
      refl,
      refl,
      c.in_ok-write.ensures.message ∙ ap (λ (l : List ℕ). l ++ rejection_message rejection) c.new-message.ensures.items,
    )
