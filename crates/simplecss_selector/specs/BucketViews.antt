-- What contracts see of a bucket: the kind of its key, the bytes of its text, and the node that must have
-- it.
use Rattle.simplecss_selector.specs.KeyViews.{key_value}
use Rattle.simplecss_selector.specs.Buckets.{Bucket as BucketValue}
use Rattle.simplecss_selector.specs.Buckets.Bucket.{of_element, of_parent, of_previous}
use Rattle.simplecss_selector.specs.declared.bucket.Bucket.{Bucket}
use Rattle.simplecss_selector.specs.declared.bucket.Bucket.TheVariants.{OfElement, OfParent, OfPrevious}

-- the key, and the node that must have it
abbrev pub bucket_value : Bucket → BucketValue
bucket_value (OfElement key) = of_element (key_value key)
bucket_value (OfParent key) = of_parent (key_value key)
bucket_value (OfPrevious key) = of_previous (key_value key)
