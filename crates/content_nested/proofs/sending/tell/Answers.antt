use Rattle.content_nested.proofs.sending.tell.Goals as goal

pub returns : goal.returns
returns g c = g.met.T.Tells.is_told c.args.value.now
