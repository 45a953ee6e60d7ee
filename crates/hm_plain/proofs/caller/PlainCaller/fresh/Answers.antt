use Rattle.hm_plain.proofs.AgreeFacts.{agree_fresh}
use Rattle.hm_plain.proofs.caller.PlainCaller.fresh.Goals as goal

pub invariant_of-result : goal.invariant_of-result
invariant_of-result g c = agree_fresh c.args.diary c.args.objects c.args.common c.requires.common c.requires.alone c.requires.store c.requires.used c.requires.versions
