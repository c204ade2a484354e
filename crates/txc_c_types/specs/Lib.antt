pub mod CacheViews
pub mod Numbers
