use Rattle.mount_replies.proofs.FittingPasts.{pasts_fit_their_types}
use Rattle.mount_replies.proofs.laws.pasts_fit_their_types.Goals as goal

pub returns : goal.returns
returns c = pasts_fit_their_types
