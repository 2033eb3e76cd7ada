use Rattle.std.proofs.Common.{◌≡◌, ◌-◌, ◌++◌, length, take, drop, arith, ap, ◌∙◌, length-drop, length-append}
use Rattle.kbatch.specs.Stamp.{stamped}
use Rattle.partlog.proofs.Stamping.{relaid, lent_part}
use Rattle.partlog.proofs.part_log.put_stamped.Goals as goal

pub returns-clause-put : goal.returns-clause-put
returns-clause-put c =
    let log = c.args.log.now in
    let bytes = c.args.bytes.now in
    let all = c.as_mut_slice.result.now in
    let w = c.stamp.new.bytes in
    let start = c.len-start.result in
    let ext = c.in_ok-extend.ensures.ok in
    let part : take (length all - start) (drop start all) ≡ bytes = lent_part log bytes c.extend.new.self all start ext c.as_mut_slice.ensures.value c.len-start.ensures in
    let size : length w ≡ length bytes = c.stamp.auto.bytes ∙ ap length part in
    let post = drop (length all - start) (drop start all) in
    let none : length post ≡ 0 = omega (arith, length-drop (length all - start) (drop start all), length-drop start all) in
    relaid log bytes c.extend.new.self all w post start ext c.as_mut_slice.ensures.value c.len-start.ensures size none
    ∙ ap (λ l. log ++ l) (c.stamp.ensures ∙ ap (stamped c.args.base) part)

pub returns-clause-size : goal.returns-clause-size
returns-clause-size c =
    let log = c.args.log.now in
    let bytes = c.args.bytes.now in
    let all = c.as_mut_slice.result.now in
    let w = c.stamp.new.bytes in
    let start = c.len-start.result in
    let ext = c.in_ok-extend.ensures.ok in
    let part : take (length all - start) (drop start all) ≡ bytes = lent_part log bytes c.extend.new.self all start ext c.as_mut_slice.ensures.value c.len-start.ensures in
    let size : length w ≡ length bytes = c.stamp.auto.bytes ∙ ap length part in
    let post = drop (length all - start) (drop start all) in
    let none : length post ≡ 0 = omega (arith, length-drop (length all - start) (drop start all), length-drop start all) in
    ap length (relaid log bytes c.extend.new.self all w post start ext c.as_mut_slice.ensures.value c.len-start.ensures size none)
    ∙ length-append log w ∙ omega (arith, size)
