-- What contracts see of weights.
use Rattle.css_cascade.specs.declared.weights.Weight.{Weight}
use Rattle.css_cascade.specs.Cascade.{Weighed}

abbrev pub weighed : Weight → Weighed
weighed w = record {
  important = w.important;
  origin = w.origin;
  attached = w.attached;
  layer = w.layer;
  specificity = w.specificity;
  place = w.place;
  rollback = w.rollback;
}
