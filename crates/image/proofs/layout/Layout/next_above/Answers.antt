use Rattle.std.proofs.Common.{ap, arith, rules, tests}
use Rattle.plan.proofs.PipeLaws.{within_parts}
use Rattle.image.specs.declared.layout.Layout.{Layout}
use Rattle.image.specs.Sounds.{sound_chained, is_sound_carried}
use Rattle.image.proofs.SoundWalks.{Toward, toward_starts, first_above}
use Rattle.image.proofs.layout.Layout.next_above.Goals as goal

pub returns : goal.returns
returns c =
    let p = within_parts c.args.self.now.header.n c.args.v.0 c.requires.inside in
    let k = sound_chained c.args.self.now.bytes.now (is_sound_carried c.args.self.now.bytes.now c.requires.sound) in
    let s : Toward c.args.self.now.bytes.now c.args.v c.args.w.0 c.sound_chain.result = toward_starts c.args.self.now.bytes.now c.args.v c.args.w.0 k c.sound_chain.result (ap (λ (i : Layout). i.bytes.now) c.sound_chain.ensures.image) c.sound_chain.ensures.at p.0 (omega (arith, p.1, c.args.self.now.laid.size)) in
    first_above c.args.self.now.bytes.now c.args.v c.args.w.0 k _ _ (λ x q m. search (rules, tests)) (λ x q m. search (rules, tests)) c.sound_chain.result c.find.new.self c.find.result c.requires.upper s c.find.ensures.ran
