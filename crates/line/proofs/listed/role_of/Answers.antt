use Rattle.line.proofs.Parts.{role_neither, role_sends, no_send, role_receives, no_receive}
use Rattle.line.proofs.listed.role_of.Goals as goal

pub returns-in-Neither : goal.returns-in-Neither
returns-in-Neither c = role_neither _ _ c.in-Neither.is

pub returns-in_ok-noted-in-Sends : goal.returns-in_ok-noted-in-Sends
returns-in_ok-noted-in-Sends c = role_sends _ _ _ c.noted.ensures _ c.in-Sends.is c.in_ok-noted-in-Sends.was

pub returns-in_err-noted-in-Sends : goal.returns-in_err-noted-in-Sends
returns-in_err-noted-in-Sends c = rw c.from_residual.ensures (no_send _ _ _ c.noted.ensures c.in-Sends.is c.in_err-noted-in-Sends.was)

pub returns-in_ok-noted-in-Receives : goal.returns-in_ok-noted-in-Receives
returns-in_ok-noted-in-Receives c = role_receives _ _ _ c.noted-in-Receives.ensures _ c.in-Receives.is c.in_ok-noted-in-Receives.was

pub returns-in_err-noted-in-Receives : goal.returns-in_err-noted-in-Receives
returns-in_err-noted-in-Receives c =
    rw c.from_residual-in_err-noted-in-Receives.ensures (no_receive _ _ _ c.noted-in-Receives.ensures c.in-Receives.is c.in_err-noted-in-Receives.was)
