use Rattle.std.proofs.Common.{◌∙◌, ap, length, get_or, None}
use Rattle.std.proofs.lemmas.Result.{IfOk-weaker}
use Rattle.hem_regroup.specs.Normal.{place_of}
use Rattle.hem_regroup.proofs.Anchors.{places-at, places_size}
use Rattle.hem_regroup.proofs.tops.all_anchors.Goals as goal

pub returns-clause-size : goal.returns-clause-size
returns-clause-size c =
    let tops = c.as_slice.result.now in
    IfOk-weaker c.places.result _ _ (λ places are. ap length are ∙ places_size tops ∙ ap length c.as_slice.ensures.value ∙ c.in_ok-tops.ensures.size) c.places.ensures

pub returns-clause-anchors : goal.returns-clause-anchors
returns-clause-anchors c =
    let tops = c.as_slice.result.now in
    IfOk-weaker c.places.result _ _
    (λ places are n within.
    ap (λ ps. get_or ps n 0) are
    ∙ places-at tops n
    ∙ ap (λ tops. place_of (get_or tops n None)) c.as_slice.ensures.value
    ∙ ap place_of (c.in_ok-tops.ensures.tops n within))
    c.places.ensures
